-- What the lent buffers hold: the post kept in the one, the text written into the other. Definitions only.
use Rattle.std.specs.Prelude.{cond, List, ℕ, eqb, take}
use Rattle.post.specs.Heads.{state_length}
use Rattle.bench_line.specs.Answers.{Written, written_of}
use Rattle.bench_answers.specs.Posts.{Kept, Response}

-- how many bytes of a buffer the post kept has: before an accepted setup none
abbrev pub kept_length : ℕ → ℕ
kept_length leads = cond (eqb leads 0) 0 (state_length leads)

-- the post that is kept in the beginning of a buffer with room for any
unfoldable pub kept_in : ℕ → List ℕ → Kept
kept_in leads buffer = record { leads = leads; state = take (kept_length leads) buffer }

-- what an answer leaves: the post kept, how many characters were written, and what the text's buffer holds
pub record Left : Type 0 where
  pub post : Kept
  pub written : Written

abbrev pub leaves : Response → List ℕ → Left
leaves a text = record { post = a.post; written = written_of a.text text }
