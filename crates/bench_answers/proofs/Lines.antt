-- Characters up to the first line feed, and to the end where there is none: what they come to. Assumes nothing.
use mathlib.Core.Bool.{Bool, true, false, cond, not}
use mathlib.Core.List.{List, [], ◌∷◌, ◌++◌, append_assoc, append-nil}
use mathlib.Core.Path.{◌≡◌, refl, ap, subst, ◌∙◌}
use Prim.Native.Nat.{ℕ, zero, suc, ◌+◌, ◌≤◌, ◌<◌}
use native.Mathlib.Omega.{arith}
use lib.Dec.{ltb, eqb}
use lib.ListN.{length, take, drop, length-take}
use lib.Seq.{take_all}
use borrow.Author.Tests.{ltb-true, ltb-false}
use Rattle.std.specs.Prelude.{Option, Some, None, position}
use Rattle.std.specs.List.{position_or_len}
use Rattle.bench_answers.specs.Rooms.{line_room}
use Rattle.bench_answers.specs.Posts.{answer_to}
use Rattle.bench_answers.specs.Pieces.{Going, Fed, printed_before, joins, fed}

-- how many characters stand before the first line feed
abbrev pub to_line_feed : List ℕ → ℕ
to_line_feed s = position_or_len (λ c. eqb c 10) s

pub take_twice : (n : ℕ) (s t : List ℕ) → take n (take n s ++ t) ≡ take n (s ++ t)
take_twice zero s t = refl
take_twice (suc n) [] t = refl
take_twice (suc n) (x ∷ s) t = ap (◌∷◌ x) (take_twice n s t)

joins_more : (b s t : List ℕ) → joins (joins b s) t ≡ joins b (s ++ t)
joins_more b s t = take_twice line_room (b ++ s) t ∙ ap (take line_room) (append_assoc b s t)

joins_none : (b : List ℕ) → length b ≤ line_room → joins b [] ≡ b
joins_none b h = rw (append-nil b) (take_all line_room b h)

length_joins : (b s : List ℕ) → length (joins b s) ≤ line_room
length_joins b s = omega (arith, length-take line_room (b ++ s))

-- the line ends with the characters given
abbrev ended : Going → List ℕ → List ℕ → Fed
ended g s rest =
    printed_before (answer_to g.post (joins g.begun s)).text
    (fed (record { post = (answer_to g.post (joins g.begun s)).post; begun = [] }) rest)

-- it ends as it is
abbrev at_once : Going → List ℕ → Fed
at_once g rest =
    printed_before (answer_to g.post g.begun).text (fed (record { post = (answer_to g.post g.begun).post; begun = [] }) rest)

-- it goes on with them
abbrev goes_on : Going → List ℕ → Going
goes_on g s = record { post = g.post; begun = joins g.begun s }

-- what the library says of the first line feed
module _ (s : List ℕ) where
  abbrev pub Found : Option ℕ → Type 0
  Found None = length s ≤ to_line_feed s
  Found (Some n) = (n ≡ to_line_feed s) × (n < length s)

  pub found_at : (r : Option ℕ) → position (λ c. eqb c 10) s ≡ r → Found r
  found_at r e = subst Found e (go (ltb (to_line_feed s) (length s)) refl)
    where
      go : (b : Bool) → ltb (to_line_feed s) (length s) ≡ b → Found (cond b (Some (to_line_feed s)) None)
      go true t = (refl, ltb-true (to_line_feed s) (length s) t)
      go false t = ltb-false (to_line_feed s) (length s) t

pub fed_none :
    (g : Going) (s : List ℕ)
    → length g.begun ≤ line_room
    → length s ≤ to_line_feed s
    → fed g s ≡ record { text = []; going = goes_on g s }
fed_none g [] h e = rw (joins_none g.begun h)
fed_none g (c ∷ s) h e =
    go (eqb c 10) (1 + to_line_feed s) (omega arith) (fed_none (goes_on g (c ∷ [])) s (length_joins g.begun (c ∷ []))) e
  where
    go :
        (b : Bool) (n : ℕ)
        → n ≡ suc (to_line_feed s)
        → (length s ≤ to_line_feed s → fed (goes_on g (c ∷ [])) s ≡ record { text = []; going = goes_on (goes_on g (c ∷ [])) s })
        → length (c ∷ s) ≤ cond (not b) n 0
        → cond b (at_once g s) (fed (goes_on g (c ∷ [])) s) ≡ record { text = []; going = goes_on g (c ∷ s) }
    go true n q r e = absurd (omega arith)
    go false n q r e = r (omega arith) ∙ rw (joins_more g.begun (c ∷ []) s)

pub fed_some :
    (g : Going) (s : List ℕ)
    → length g.begun ≤ line_room
    → to_line_feed s < length s
    → fed g s ≡ ended g (take (to_line_feed s) s) (drop (suc (to_line_feed s)) s)
fed_some g [] h e = absurd (omega arith)
fed_some g (c ∷ s) h e =
    go (eqb c 10) (1 + to_line_feed s) (omega arith) (fed_some (goes_on g (c ∷ [])) s (length_joins g.begun (c ∷ []))) e
  where
    go :
        (b : Bool) (n : ℕ)
        → n ≡ suc (to_line_feed s)
        → (to_line_feed s < length s → fed (goes_on g (c ∷ [])) s ≡ ended (goes_on g (c ∷ [])) (take (to_line_feed s) s) (drop (suc (to_line_feed s)) s))
        → cond (not b) n 0 < length (c ∷ s)
        → cond b (at_once g s) (fed (goes_on g (c ∷ [])) s)
        ≡ ended g (take (cond (not b) n 0) (c ∷ s)) (drop (suc (cond (not b) n 0)) (c ∷ s))
    go true n q r e = rw (joins_none g.begun h)
    go false n q r e = rw q (r (omega arith) ∙ rw (joins_more g.begun (c ∷ []) (take (to_line_feed s) s)))
