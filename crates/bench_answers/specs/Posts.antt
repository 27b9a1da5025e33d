-- Document 01, 'Bench program': what a line comes to, by the post kept so far. Definitions only.
use Rattle.std.specs.Prelude.{Option, Some, None, cond, List, [], ℕ, max, eqb, take, replicate}
use Rattle.post.specs.Heads.{state_length, input_length, output_length, head_from}
use Rattle.post.specs.Calls.{SetUp, setup_of, Ticked, tick_of}
use Rattle.setup_numbers.specs.declared.SetupNumbers.{SetupNumbers}
use Rattle.bench_line.specs.Lines.{Parsed, parsed_of}
use Rattle.bench_line.specs.Answers.{returned_text, done_text, unknown_text}
use Rattle.bench_line.specs.declared.lines.Line.{Line}
use Rattle.bench_line.specs.declared.lines.Line.TheVariants.{Setup, Tick}
use Rattle.bench_answers.specs.Rooms.{input_room}

-- the post kept from line to line: how many leads it has, 0 before an accepted setup, and the bytes of its state
pub record Kept : Type 0 where
  pub leads : ℕ
  pub state : List ℕ

abbrev pub no_post : Kept
no_post = record { leads = 0; state = [] }

-- bytes that are all 0
abbrev pub zeros : ℕ → List ℕ
zeros n = replicate n 0

-- what a line prints, and the post kept after it
pub record Response : Type 0 where
  pub text : List ℕ
  pub post : Kept

-- "Any other line … prints `?`", and keeps the post
abbrev pub unknown : Kept → Response
unknown kept = record { text = unknown_text; post = kept }

-- "It prints the number" "A refused setup keeps the earlier post."
abbrev pub after_setup : Kept → ℕ → SetUp → Response
after_setup kept leads r =
    record {
      text = returned_text r.number;
      post = cond (eqb r.number 0) (record { leads = leads; state = r.state }) kept;
    }

-- setup is called on a state that is as long as it asks for
unfoldable pub answer_setup : Kept → SetupNumbers → Response
answer_setup kept numbers =
    after_setup kept numbers.leads (setup_of (head_from numbers) (zeros (state_length numbers.leads)))

-- "It prints the number, and for a tick done a tab and the output in capital hex."
abbrev pub after_tick : ℕ → Ticked → Response
after_tick leads r =
    record {
      text = cond (eqb r.number 0) (done_text r.output) (returned_text r.number);
      post = record { leads = leads; state = r.state };
    }

-- "missing final bytes 0; surplus bytes are passed on": `input` has the line's bytes, `count` of them, and zeros behind. "… or a tick
-- before an accepted setup prints `?`."
unfoldable pub answer_tick : Kept → ℕ → List ℕ → Response
answer_tick kept count input =
    cond (eqb kept.leads 0) (unknown kept)
    (after_tick kept.leads
    (tick_of kept.state (take (max (input_length kept.leads) count) input) (zeros (output_length kept.leads))))

abbrev pub by_line : Kept → Option Line → List ℕ → Response
by_line kept (Some (Setup numbers)) input = answer_setup kept numbers
by_line kept (Some (Tick count)) input = answer_tick kept count input
by_line kept None input = unknown kept

-- a line without its line feed
unfoldable pub answer_to : Kept → List ℕ → Response
answer_to kept line =
    let p : Parsed = parsed_of line (zeros input_room) in
    by_line kept p.line p.input
