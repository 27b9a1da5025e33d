-- The numbers of a line, read one after the other, and the order that they make. Assumes nothing.
use mathlib.Core.Bool.{cond}
use mathlib.Core.List.{List, [], ◌∷◌}
use mathlib.Core.Logic.{inl, inr}
use mathlib.Core.Path.{◌≡◌, refl, sym, ap, ◌∙◌}
use Prim.Native.Nat.{ℕ, ◌-◌}
use native.Mathlib.Omega.{arith}
use lib.Dec.{leb}
use lib.ListN.{length, take, drop, length-drop}
use borrow.Author.Tests.{eq-eqb, ne_eqb}
use Rattle.std.specs.Prelude.{Option, Some, None, option_map}
use Rattle.std.proofs.lemmas.List.{take_all}
use Rattle.common.specs.Texts.{fields_of}
use Rattle.common.proofs.Texts.{some_field}
use Rattle.orders.specs.Numbers.{number_of}
use Rattle.orders.specs.Lines.{with_number, number_then, number_last, after_number, after_first, after_last, order_of}
use Rattle.orders.specs.Scans.{first_field, field_length, first_line, behind_line, number_at, if_tab, if_ended, by_rest, tabbed_read, ended_read, order_read}
use Rattle.orders.specs.declared.places.Order.{Order}
use Rattle.orders.proofs.Cuts.{Cut, cut}

-- the order that the last number makes
abbrev pub made : ℕ → ℕ → ℕ → ℕ → Option Order
made number first last watts = cond (leb first last) (Some (record { number = number; first = first; last = last; watts = watts })) None

-- what is read of a text whose number, or none, is known
module _ (next : ℕ → List ℕ → Option (ℕ × List ℕ)) (s : List ℕ) where
  pub by_number : (n k : ℕ) → Some (n, k) ≡ number_at s → (r : List ℕ) → take (length s - k) (drop k s) ≡ r → next n r ≡ by_rest next s (number_at s)
  by_number n k e r b = rw (← e) (ap (next n) (sym b ∙ take_all (length s - k) (drop k s) (omega (arith, length-drop k s))))

  pub by_none : None ≡ number_at s → None ≡ by_rest next s (number_at s)
  by_none e = rw (← e)

-- the order of the first line is what is made of the fields left, and the lines behind it are those behind what is left of it
pub record Left (text : List ℕ) (next : List (List ℕ) → Option Order) (s : List ℕ) : Type 0 where
  pub same : order_of (first_line text) ≡ next (fields_of (first_line s))
  pub behind : behind_line text ≡ behind_line s

pub all_left : (text : List ℕ) → Left text (number_then after_number) text
unfolding order_of
all_left text = record { same = refl; behind = refl }

pub no_order : (text : List ℕ) → order_of (first_line text) ≡ None → None ≡ order_read text
unfolding order_read
no_order text e = rw e

pub the_order : (text r : List ℕ) (o : Order) → order_of (first_line text) ≡ Some o → behind_line text ≡ r → Some (o, r) ≡ order_read text
unfolding order_read
the_order text r o e b = rw (e, b)

-- what was read, where it is known what it is
abbrev got : ℕ → List ℕ → Option (ℕ × List ℕ)
got n s = Some (n, s)

module _ {text s : List ℕ} (k : ℕ → List (List ℕ) → Option Order) (l : Left text (number_then k) s) where
  pub number_there : (n : ℕ) (r : List ℕ) → Some (n, r) ≡ tabbed_read s → Left text (k n) r
  unfolding tabbed_read number_at
  number_there n r e = go (number_of (first_field s)) refl e
    where
      tab : (v c : ℕ) (t : List ℕ) → number_of (first_field s) ≡ Some v → Cut s (c ∷ t) → got n r ≡ if_tab v (c ∷ t) → Left text (k n) r
      tab v c t m (inl (q, f, b)) e =
          let d : got n r ≡ got v t = rw (eq-eqb c 9 q) at e in
          let same : ◌≡◌ {A = ℕ × List ℕ} (n, r) (v, t) = cc in
          let x : n ≡ v = ap (λ p. p.0) same in
          let y : r ≡ t = ap (λ p. p.1) same in
          record {
            same = l.same ∙ ap (number_then k) f ∙ rw (m, x, y) refl;
            behind = l.behind ∙ b ∙ ap behind_line (sym y);
          }
      tab v c t m (inr (q, f, b)) e = absurd (let d : got n r ≡ None = rw (ne_eqb c 9 (λ h. omega arith)) at e in cc)

      here : (v : ℕ) → number_of (first_field s) ≡ Some v → (d : List ℕ) → Cut s d → got n r ≡ if_tab v d → Left text (k n) r
      here v m [] g e = absurd cc
      here v m (c ∷ t) g e = tab v c t m g e

      go : (x : Option ℕ) → number_of (first_field s) ≡ x → got n r ≡ by_rest if_tab s (option_map (λ v. (v, field_length s)) x) → Left text (k n) r
      go None m e = absurd cc
      go (Some v) m e = here v m (drop (field_length s) s) (cut s) e

  -- there is none, and what is made of it needs a field behind it
  pub number_not : ((n : ℕ) → k n [] ≡ None) → None ≡ tabbed_read s → None ≡ order_read text
  unfolding tabbed_read number_at
  number_not last e = no_order text (l.same ∙ go (number_of (first_field s)) refl e)
    where
      alone : fields_of (first_line s) ≡ first_field s ∷ [] → number_then k (fields_of (first_line s)) ≡ None
      alone f = ap (number_then k) f ∙ any (number_of (first_field s))
        where
          any : (x : Option ℕ) → with_number x (λ n. k n []) ≡ None
          any (Some n) = last n
          any None = refl

      not : number_of (first_field s) ≡ None → number_then k (fields_of (first_line s)) ≡ None
      not m = go (drop (field_length s) s) (cut s)
        where
          go : (d : List ℕ) → Cut s d → number_then k (fields_of (first_line s)) ≡ None
          go [] (f, b) = ap (number_then k) f ∙ rw m refl
          go (c ∷ t) (inl (q, f, b)) = ap (number_then k) f ∙ rw m refl
          go (c ∷ t) (inr (q, f, b)) = ap (number_then k) f ∙ rw m refl

      tab : (v c : ℕ) (t : List ℕ) → Cut s (c ∷ t) → None ≡ if_tab v (c ∷ t) → number_then k (fields_of (first_line s)) ≡ None
      tab v c t (inl (q, f, b)) e = absurd (let d : None ≡ got v t = rw (eq-eqb c 9 q) at e in cc)
      tab v c t (inr (q, f, b)) e = alone f

      here : (v : ℕ) (d : List ℕ) → Cut s d → None ≡ if_tab v d → number_then k (fields_of (first_line s)) ≡ None
      here v [] (f, b) e = alone f
      here v (c ∷ t) g e = tab v c t g e

      go :
          (x : Option ℕ)
          → number_of (first_field s) ≡ x
          → None ≡ by_rest if_tab s (option_map (λ v. (v, field_length s)) x)
          → number_then k (fields_of (first_line s)) ≡ None
      go None m e = not m
      go (Some v) m e = here v (drop (field_length s) s) (cut s) e

-- the same of the last number
module _ {text s : List ℕ} (k : ℕ → Option Order) (l : Left text (number_last k) s) where
  pub ended_there : (n : ℕ) (r : List ℕ) → Some (n, r) ≡ ended_read s → (order_of (first_line text) ≡ k n) × (behind_line text ≡ r)
  unfolding ended_read number_at
  ended_there n r e = go (number_of (first_field s)) refl e
    where
      Ends : Type 0
      Ends = (order_of (first_line text) ≡ k n) × (behind_line text ≡ r)

      ends : (v : ℕ) (t : List ℕ) → number_of (first_field s) ≡ Some v → fields_of (first_line s) ≡ first_field s ∷ [] → behind_line s ≡ t → got n r ≡ got v t → Ends
      ends v t m f b d =
          let same : ◌≡◌ {A = ℕ × List ℕ} (n, r) (v, t) = cc in
          let x : n ≡ v = ap (λ p. p.0) same in
          let y : r ≡ t = ap (λ p. p.1) same in
          (l.same ∙ ap (number_last k) f ∙ rw (m, x) refl, l.behind ∙ b ∙ sym y)

      feed : (v c : ℕ) (t : List ℕ) → number_of (first_field s) ≡ Some v → Cut s (c ∷ t) → got n r ≡ if_ended v (c ∷ t) → Ends
      feed v c t m (inl (q, f, b)) e = absurd (let d : got n r ≡ None = rw (ne_eqb c 10 (λ h. omega arith)) at e in cc)
      feed v c t m (inr (q, f, b)) e = ends v t m f b (rw (eq-eqb c 10 q) at e)

      here : (v : ℕ) → number_of (first_field s) ≡ Some v → (d : List ℕ) → Cut s d → got n r ≡ if_ended v d → Ends
      here v m [] (f, b) e = ends v [] m f b e
      here v m (c ∷ t) g e = feed v c t m g e

      go : (x : Option ℕ) → number_of (first_field s) ≡ x → got n r ≡ by_rest if_ended s (option_map (λ v. (v, field_length s)) x) → Ends
      go None m e = absurd cc
      go (Some v) m e = here v m (drop (field_length s) s) (cut s) e

  pub ended_not : None ≡ ended_read s → None ≡ order_read text
  unfolding ended_read number_at
  ended_not e = no_order text (l.same ∙ go (number_of (first_field s)) refl e)
    where
      NoOrder : Type 0
      NoOrder = number_last k (fields_of (first_line s)) ≡ None

      -- another field behind it
      more : (r : List ℕ) → fields_of (first_line s) ≡ first_field s ∷ fields_of (first_line r) → NoOrder
      more r f = ap (number_last k) f ∙ some_field (first_line r) (λ fs. number_last k (first_field s ∷ fs) ≡ None) (λ g gs. refl)

      not : number_of (first_field s) ≡ None → (d : List ℕ) → Cut s d → NoOrder
      not m [] (f, b) = ap (number_last k) f ∙ rw m refl
      not m (c ∷ t) (inl (q, f, b)) = more t f
      not m (c ∷ t) (inr (q, f, b)) = ap (number_last k) f ∙ rw m refl

      feed : (v c : ℕ) (t : List ℕ) → Cut s (c ∷ t) → None ≡ if_ended v (c ∷ t) → NoOrder
      feed v c t (inl (q, f, b)) e = more t f
      feed v c t (inr (q, f, b)) e = absurd (let d : None ≡ got v t = rw (eq-eqb c 10 q) at e in cc)

      here : (v : ℕ) (d : List ℕ) → Cut s d → None ≡ if_ended v d → NoOrder
      here v [] g e = absurd cc
      here v (c ∷ t) g e = feed v c t g e

      go : (x : Option ℕ) → number_of (first_field s) ≡ x → None ≡ by_rest if_ended s (option_map (λ v. (v, field_length s)) x) → NoOrder
      go None m e = not m (drop (field_length s) s) (cut s)
      go (Some v) m e = here v (drop (field_length s) s) (cut s) e

-- one number after the other
module _ (text : List ℕ) {r : List ℕ} {number : ℕ} (one : Some (number, r) ≡ tabbed_read text) where
  pub one_read : Left text (number_then (after_first number)) r
  one_read = number_there after_number (all_left text) number r one

  module _ {q : List ℕ} {first : ℕ} (two : Some (first, q) ≡ tabbed_read r) where
    pub two_read : Left text (number_then (after_last number first)) q
    two_read = number_there (after_first number) one_read first q two

    module _ {p : List ℕ} {last : ℕ} (three : Some (last, p) ≡ tabbed_read q) where
      pub three_read : Left text (number_last (made number first last)) p
      three_read = number_there (after_last number first) two_read last p three

      pub four_read :
          {b : List ℕ} {watts : ℕ}
          → Some (watts, b) ≡ ended_read p
          → (order_of (first_line text) ≡ made number first last watts) × (behind_line text ≡ b)
      four_read {b} {watts} four = ended_there (made number first last) three_read watts b four
