-- However an input is cut into pieces, its lines are answered one before the other. Assumes nothing.
use mathlib.Core.Bool.{Bool, true, false, cond}
use mathlib.Core.List.{List, [], ◌∷◌, ◌++◌, append_assoc, append-nil}
use mathlib.Core.Path.{◌≡◌, refl}
use Prim.Native.Nat.{ℕ, ◌<◌}
use native.Mathlib.Omega.{arith}
use lib.Dec.{leb, eqb}
use lib.ListN.{length, take, length-take}
use lib.Seq.{take_all}
use borrow.Author.Tests.{leb-true, leb-false, lt-leb, ne_eqb}
use Rattle.bench_line.specs.Lines.{longest, parsed_of}
use Rattle.bench_answers.specs.Rooms.{line_room}
use Rattle.bench_answers.specs.Posts.{Kept, answer_to, no_post}
use Rattle.bench_answers.specs.Pieces.{Going, Fed, printed_before, joins, fed, last_text, printed, lines_from, answers_to}
use Rattle.bench_answers.proofs.Lines.{take_twice}

-- pieces one before the other
pub in_pieces : (g : Going) (s t : List ℕ) → fed g (s ++ t) ≡ printed_before (fed g s).text (fed (fed g s).going t)
in_pieces g [] t = refl
in_pieces g (c ∷ s) t =
    go (eqb c 10) (in_pieces (record { post = (answer_to g.post g.begun).post; begun = [] }) s t)
    (in_pieces (record { post = g.post; begun = joins g.begun (c ∷ []) }) s t)
  where
    ended : Going
    ended = record { post = (answer_to g.post g.begun).post; begun = [] }

    longer : Going
    longer = record { post = g.post; begun = joins g.begun (c ∷ []) }

    by : Bool → List ℕ → Fed
    by b s = cond b (printed_before (answer_to g.post g.begun).text (fed ended s)) (fed longer s)

    go :
        (b : Bool)
        → fed ended (s ++ t) ≡ printed_before (fed ended s).text (fed (fed ended s).going t)
        → fed longer (s ++ t) ≡ printed_before (fed longer s).text (fed (fed longer s).going t)
        → by b (s ++ t) ≡ printed_before (by b s).text (fed (by b s).going t)
    go true e l = rw (e, append_assoc)
    go false e l = l

-- a line that is too long is too long whatever follows
cut_line : (kept : Kept) (s : List ℕ) → answer_to kept (take line_room s) ≡ answer_to kept s
unfolding answer_to parsed_of
cut_line kept s = go (leb (length s) longest) refl
  where
    go : (b : Bool) → leb (length s) longest ≡ b → answer_to kept (take line_room s) ≡ answer_to kept s
    go true e = rw (take_all line_room s (omega (arith, leb-true (length s) longest e)))
    go false e =
        let long : longest < length s = leb-false (length s) longest e in
        rw (e, lt-leb (length (take line_room s)) longest (omega (arith, long, length-take line_room s)))

from_line :
    (kept : Kept) (b s : List ℕ) → printed (fed (record { post = kept; begun = take line_room b }) s) ≡ answers_to kept (lines_from b s)
unfolding last_text
from_line kept [] [] = refl
from_line kept (x ∷ b) [] =
    rw (
      ne_eqb (length (take line_room (x ∷ b))) 0 (λ e. omega (arith, length-take line_room (x ∷ b))),
      ne_eqb (length (x ∷ b)) 0 (λ e. omega arith),
      cut_line kept (x ∷ b),
      append-nil,
    )
from_line kept b (c ∷ s) = go (eqb c 10) (from_line (answer_to kept b).post [] s) (from_line kept (b ++ (c ∷ [])) s)
  where
    ended : Fed
    ended = fed (record { post = (answer_to kept (take line_room b)).post; begun = [] }) s

    longer : Fed
    longer = fed (record { post = kept; begun = joins (take line_room b) (c ∷ []) }) s

    go :
        (t : Bool)
        → printed (fed (record { post = (answer_to kept b).post; begun = [] }) s) ≡ answers_to (answer_to kept b).post (lines_from [] s)
        → printed (fed (record { post = kept; begun = take line_room (b ++ (c ∷ [])) }) s) ≡ answers_to kept (lines_from (b ++ (c ∷ [])) s)
        → printed (cond t (printed_before (answer_to kept (take line_room b)).text ended) longer)
        ≡ answers_to kept (cond t (b ∷ lines_from [] s) (lines_from (b ++ (c ∷ [])) s))
    go true e l = rw (cut_line kept b, append_assoc, e)
    go false e l = rw (take_twice line_room b (c ∷ [])) l

-- "It reads standard input": what is printed for the whole of it
pub whole_input : (input : List ℕ) → printed (fed (record { post = no_post; begun = [] }) input) ≡ answers_to no_post (lines_from [] input)
whole_input input = from_line no_post [] input
