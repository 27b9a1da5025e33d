-- Document 01, 'Bench program': "It reads standard input, tab-parted lines." What characters of it come to, however they are cut into
-- pieces. Definitions only.
use Rattle.std.specs.Prelude.{cond, List, [], ◌∷◌, ◌++◌, ℕ, eqb, length, take}
use Rattle.bench_answers.specs.Rooms.{line_room}
use Rattle.bench_answers.specs.Posts.{Kept, answer_to}

-- what goes on from one character to the next: the post kept, and the characters of the line begun
pub record Going : Type 0 where
  pub post : Kept
  pub begun : List ℕ

-- what characters come to: the text printed, and what goes on
pub record Fed : Type 0 where
  pub text : List ℕ
  pub going : Going

-- behind a text that was printed before
abbrev pub printed_before : List ℕ → Fed → Fed
printed_before text f = record { text = text ++ f.text; going = f.going }

-- a line goes on; of one that is too long no more is kept than tells so
abbrev pub joins : List ℕ → List ℕ → List ℕ
joins begun more = take line_room (begun ++ more)

-- a line feed ends the line begun, which is answered; any other character is one more of it
abbrev pub fed : Going → List ℕ → Fed
fed g [] = record { text = []; going = g }
fed g (c ∷ s) =
    cond (eqb c 10)
    (printed_before (answer_to g.post g.begun).text (fed (record { post = (answer_to g.post g.begun).post; begun = [] }) s))
    (fed (record { post = g.post; begun = joins g.begun (c ∷ []) }) s)

-- at the end of the input a line begun is one without a line feed
unfoldable pub last_text : Going → List ℕ
last_text g = cond (eqb (length g.begun) 0) [] (answer_to g.post g.begun).text

-- what is printed then, and for the whole of an input
abbrev pub printed : Fed → List ℕ
printed f = f.text ++ last_text f.going

-- the same without pieces: the lines of an input, each ended by its line feed, the last by the end where anything stands there. `begun` is
-- what stands of the line so far.
abbrev pub lines_from : List ℕ → List ℕ → List (List ℕ)
lines_from begun [] = cond (eqb (length begun) 0) [] (begun ∷ [])
lines_from begun (c ∷ s) = cond (eqb c 10) (begun ∷ lines_from [] s) (lines_from (begun ++ (c ∷ [])) s)

-- lines answered one after the other
abbrev pub answers_to : Kept → List (List ℕ) → List ℕ
answers_to kept [] = []
answers_to kept (line ∷ lines) = (answer_to kept line).text ++ answers_to (answer_to kept line).post lines
