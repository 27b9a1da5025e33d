-- `bench_answers::pieces::Carried::next_line` meets its contract. The piece ends, or the line does. Assumes nothing.
use borrow.Author.Rules.{rules}
use mathlib.Core.List.{List}
use mathlib.Core.Path.{◌≡◌, refl}
use Prim.Native.Nat.{ℕ, ◌-◌}
use native.Mathlib.Omega.{arith}
use lib.ListN.{length, take, drop, length-take, length-drop}
use Rattle.bench_answers.specs.Posts.{answer_to}
use Rattle.bench_answers.specs.Buffers.{kept_in}
use Rattle.bench_answers.specs.declared.pieces.Progress.{Progress}
use Rattle.bench_answers.proofs.ReadOn.{written_within, cut_out, found_in, at_end, line_answered}
use Rattle.bench_answers.proofs.pieces.Carried.next_line.Goals as goal

-- the text behind what was written, and how much of it an answer takes
module _ (at : Progress) (text : List ℕ) where
  abbrev behind : List ℕ
  behind = take (length text - at.count) (drop at.count text)

  space : length behind ≡ length text - at.count
  space = omega (arith, length-take (length text - at.count) (drop at.count text), length-drop at.count text)

pub returns-in_default : goal.returns-in_default
returns-in_default c =
    let a = c.args in
    let put = c.add in
    let none = found_in a.piece.now a.at.read (omega arith) c.line_feed.ensures c.in_default.is in
    record {
      fits = ((search rules, search rules), omega arith);
      answered = at_end a.self.now a.at a.piece.now a.text.now (omega arith) (record { begun = put.new.self; post = a.self.now.post }) refl none put.ensures;
    }

pub overflow_add-result : goal.overflow_add-result
overflow_add-result c =
    let a = c.args in
    let here = found_in a.piece.now a.at.read (omega arith) c.line_feed.ensures c.in-Some.is in
    omega (arith, here.1, length-drop a.at.read a.piece.now)

pub overflow_add-result-3 : goal.overflow_add-result-3
overflow_add-result-3 c =
    let put = c.add-2 in
    let a = c.args in
    let kept = a.self.now.post in
    let within =
    written_within (answer_to (kept_in kept.leads kept.state) (take put.new.self.count put.new.self.line)) (behind a.at a.text.now)
    c.answer_line-written.ensures.answered in
    omega (arith, within, space a.at a.text.now)

pub returns : goal.returns
returns c =
    let put = c.add-2 in
    let a = c.args in
    let done = c.answer_line-written in
    let n = c.in-Some.length in
    let cut = cut_out a.piece.now a.at.read (omega arith) in
    let here = found_in a.piece.now a.at.read (omega arith) c.line_feed.ensures c.in-Some.is in
    let room = space a.at a.text.now in
    let kept = a.self.now.post in
    let within =
    written_within (answer_to (kept_in kept.leads kept.state) (take put.new.self.count put.new.self.line)) (behind a.at a.text.now)
    done.ensures.answered in
    record {
      fits = ((omega (arith, here.1, length-drop a.at.read a.piece.now), omega (arith, within, room)), omega arith);
      answered = line_answered a.self.now a.at a.piece.now a.text.now (omega arith) put.new.self.line n put.new.self.count here.0 here.1
          (rw cut at put.ensures) _ refl done.result done.new.text (behind a.at a.text.now) _ (omega (arith, room))
          (omega arith) done.ensures.answered;
    }
