-- Every answer fits its room, and no line makes a post of more leads than there is room for. Assumes nothing.
use mathlib.Core.Bool.{Bool, true, false, cond}
use mathlib.Core.List.{List, [], ◌∷◌}
use mathlib.Core.Path.{◌≡◌, refl}
use Prim.Native.Nat.{ℕ, ◌+◌, ◌/◌, ◌%◌, ◌≤◌, max}
use native.Mathlib.Omega.{arith}
use lib.Dec.{ltb, eqb}
use lib.ListN.{length, take, length-append, length-replicate}
use Rattle.post.specs.Heads.{most_leads, state_length, input_length, output_length, head_from}
use Rattle.post.specs.Calls.{SetUp, setup_of, Ticked, tick_of}
use Rattle.setup_numbers.specs.declared.SetupNumbers.{SetupNumbers}
use Rattle.post.proofs.Returned.{shown_length}
use Rattle.std.specs.Prelude.{Option, Some, None}
use Rattle.bench_line.specs.Digits.{digit}
use Rattle.bench_line.specs.Lines.{parsed_of}
use Rattle.bench_line.specs.Answers.{number_text, returned_text, done_text}
use Rattle.bench_line.specs.declared.lines.Line.{Line}
use Rattle.bench_line.specs.declared.lines.Line.TheVariants.{Setup, Tick}
use Rattle.bench_line.proofs.DoneText.{done_length}
use Rattle.bench_answers.specs.Rooms.{input_room, output_room, answer_room}
use Rattle.bench_answers.specs.Posts.{Kept, zeros, unknown, answer_setup, after_tick, answer_tick, by_line, answer_to}
use Rattle.bench_answers.proofs.Setups.{accepted_leads}

number_fits : (n : ℕ) → length (returned_text n) ≤ answer_room
number_fits n = rw (length-append (number_text n) (10 ∷ [])) (go (ltb n 10) (ltb n 100))
  where
    three : List ℕ
    three = digit (n / 100) ∷ digit (n / 10 % 10) ∷ digit (n % 10) ∷ []

    go : (b c : Bool) → length (cond b (digit n ∷ []) (cond c (digit (n / 10) ∷ digit (n % 10) ∷ []) three)) + 1 ≤ answer_room
    go true c = omega arith
    go false true = omega arith
    go false false = omega arith

module _ (kept : Kept) (few : kept.leads ≤ most_leads) where
  setup_few : (numbers : SetupNumbers) → (answer_setup kept numbers).post.leads ≤ most_leads
  unfolding answer_setup
  setup_few numbers = go (eqb r.number 0) refl
    where
      r : SetUp
      r = setup_of (head_from numbers) (zeros (state_length numbers.leads))

      go : (b : Bool) → eqb r.number 0 ≡ b → (cond b (record { leads = numbers.leads; state = r.state }) kept).leads ≤ most_leads
      go true e = (accepted_leads numbers (zeros (state_length numbers.leads)) e).1
      go false e = few

  tick_few : (count : ℕ) (input : List ℕ) → (answer_tick kept count input).post.leads ≤ most_leads
  unfolding answer_tick
  tick_few count input = go (eqb kept.leads 0)
    where
      go :
          (b : Bool)
          → (cond b (unknown kept)
          (after_tick kept.leads
          (tick_of kept.state (take (max (input_length kept.leads) count) input) (zeros (output_length kept.leads))))).post.leads ≤ most_leads
      go true = few
      go false = few

  pub answer_few : (line : List ℕ) → (answer_to kept line).post.leads ≤ most_leads
  unfolding answer_to
  answer_few line = go (parsed_of line (zeros input_room)).line
    where
      go : (l : Option Line) → (by_line kept l (parsed_of line (zeros input_room)).input).post.leads ≤ most_leads
      go (Some (Setup numbers)) = setup_few numbers
      go (Some (Tick count)) = tick_few count (parsed_of line (zeros input_room)).input
      go None = few

  tick_fits : (count : ℕ) (input : List ℕ) → length (answer_tick kept count input).text ≤ answer_room
  unfolding answer_tick
  tick_fits count input = go (eqb kept.leads 0)
    where
      t : Ticked
      t = tick_of kept.state (take (max (input_length kept.leads) count) input) (zeros (output_length kept.leads))

      done : length t.output ≤ output_room
      done =
          omega (
            arith,
            few,
            shown_length kept.state (take (max (input_length kept.leads) count) input) (zeros (output_length kept.leads)),
            length-replicate {A = ℕ} (output_length kept.leads) 0,
          )

      by_number : (b : Bool) → length (cond b (done_text t.output) (returned_text t.number)) ≤ answer_room
      by_number true = omega (arith, done_length t.output, done)
      by_number false = number_fits t.number

      go : (b : Bool) → length (cond b (unknown kept) (after_tick kept.leads t)).text ≤ answer_room
      go true = omega arith
      go false = by_number (eqb t.number 0)

  pub answer_fits : (line : List ℕ) → length (answer_to kept line).text ≤ answer_room
  unfolding answer_to answer_setup
  answer_fits line = go (parsed_of line (zeros input_room)).line
    where
      go : (l : Option Line) → length (by_line kept l (parsed_of line (zeros input_room)).input).text ≤ answer_room
      go (Some (Setup numbers)) = number_fits (setup_of (head_from numbers) (zeros (state_length numbers.leads))).number
      go (Some (Tick count)) = tick_fits count (parsed_of line (zeros input_room)).input
      go None = omega arith
