-- `lead::state::HeardLead::ask` meets its contract. Row by row, those before it passed. Assumes nothing.
use Rattle.lead.specs.Questions.{questions}
use Rattle.lead.proofs.FirstNo.{Row, first_row, next_row, stops, ends}
use Rattle.lead.proofs.state.HeardLead.ask.Goals as goal
use Rattle.lead.proofs.state.HeardLead.ask.Goals.{After-question, After-question-2, After-question-3, After-question-4, After-question-5, After-question-6, After-question-7, After-question-8, After-question-9, After-question-10, After-question-11, After-question-12, After-question-13, After-question-14, After-question-15, After-question-16, After-question-17, After-question-18, After-question-19}

row_11 : (c : After-question) → Row c.args.view c.args.self 11 c.question.result
unfolding questions
row_11 c = first_row c.question.ensures

row_12 : (c : After-question-2) → Row c.args.view c.args.self 12 c.question-2.result
unfolding questions
row_12 c = next_row (row_11 c.before.before.before) c.in_ok-question.was tt c.question-2.ensures

row_13 : (c : After-question-3) → Row c.args.view c.args.self 13 c.question-3.result
unfolding questions
row_13 c = next_row (row_12 c.before.before.before.before) c.in_ok-question-2.was tt c.question-3.ensures

row_14 : (c : After-question-4) → Row c.args.view c.args.self 14 c.question-4.result
unfolding questions
row_14 c = next_row (row_13 c.before.before.before.before) c.in_ok-question-3.was tt (rw c.opened_reason-opened.ensures at c.question-4.ensures)

row_15 : (c : After-question-5) → Row c.args.view c.args.self 15 c.question-5.result
unfolding questions
row_15 c = next_row (row_14 c.before.before.before.before.before) c.in_ok-question-4.was tt (rw c.is_some.ensures at c.question-5.ensures)

row_16 : (c : After-question-6) → Row c.args.view c.args.self 16 c.question-6.result
unfolding questions
row_16 c = next_row (row_15 c.before.before.before.before) c.in_ok-question-5.was tt (rw c.is_voltage_allowed.ensures at c.question-6.ensures)

row_17 : (c : After-question-7) → Row c.args.view c.args.self 17 c.question-7.result
unfolding questions
row_17 c = next_row (row_16 c.before.before.before.before) c.in_ok-question-6.was tt (rw c.is_current_allowed.ensures at c.question-7.ensures)

row_18 : (c : After-question-8) → Row c.args.view c.args.self 18 c.question-8.result
unfolding questions
row_18 c = next_row (row_17 c.before.before.before) c.in_ok-question-7.was tt c.question-8.ensures

row_19 : (c : After-question-9) → Row c.args.view c.args.self 19 c.question-9.result
unfolding questions
row_19 c = next_row (row_18 c.before.before.before.before) c.in_ok-question-8.was tt c.question-9.ensures

row_20 : (c : After-question-10) → Row c.args.view c.args.self 20 c.question-10.result
unfolding questions
row_20 c = next_row (row_19 c.before.before.before) c.in_ok-question-9.was tt c.question-10.ensures

row_21 : (c : After-question-11) → Row c.args.view c.args.self 21 c.question-11.result
unfolding questions
row_21 c = next_row (row_20 c.before.before.before.before) c.in_ok-question-10.was tt (rw c.is_compatible-compatible.ensures at c.question-11.ensures)

row_22 : (c : After-question-12) → Row c.args.view c.args.self 22 c.question-12.result
unfolding questions
row_22 c = next_row (row_21 c.before.before.before) c.in_ok-question-11.was tt c.question-12.ensures

row_23 : (c : After-question-13) → Row c.args.view c.args.self 23 c.question-13.result
unfolding questions
row_23 c = next_row (row_22 c.before.before.before) c.in_ok-question-12.was tt c.question-13.ensures

row_24 : (c : After-question-14) → Row c.args.view c.args.self 24 c.question-14.result
unfolding questions
row_24 c = next_row (row_23 c.before.before.before.before) c.in_ok-question-13.was tt c.question-14.ensures

row_25 : (c : After-question-15) → Row c.args.view c.args.self 25 c.question-15.result
unfolding questions
row_25 c = next_row (row_24 c.before.before.before) c.in_ok-question-14.was tt c.question-15.ensures

row_26 : (c : After-question-16) → Row c.args.view c.args.self 26 c.question-16.result
unfolding questions
row_26 c = next_row (row_25 c.before.before.before.before) c.in_ok-question-15.was tt c.question-16.ensures

row_27 : (c : After-question-17) → Row c.args.view c.args.self 27 c.question-17.result
unfolding questions
row_27 c = next_row (row_26 c.before.before.before) c.in_ok-question-16.was tt c.question-17.ensures

row_28 : (c : After-question-18) → Row c.args.view c.args.self 28 c.question-18.result
unfolding questions
row_28 c = next_row (row_27 c.before.before.before.before) c.in_ok-question-17.was tt c.question-18.ensures

row_29 : (c : After-question-19) → Row c.args.view c.args.self 29 c.question-19.result
unfolding questions
row_29 c = next_row (row_28 c.before.before.before.before) c.in_ok-question-18.was tt c.question-19.ensures

pub returns-in_err-question : goal.returns-in_err-question
returns-in_err-question c = stops (row_11 c.before.before.before) c.in_err-question.was c.from_residual.ensures.1

pub returns-in_err-question-2 : goal.returns-in_err-question-2
returns-in_err-question-2 c = stops (row_12 c.before.before.before) c.in_err-question-2.was c.from_residual-in_err-question-2.ensures.1

pub returns-in_err-question-3 : goal.returns-in_err-question-3
returns-in_err-question-3 c = stops (row_13 c.before.before.before) c.in_err-question-3.was c.from_residual-in_err-question-3.ensures.1

pub returns-in_err-question-4 : goal.returns-in_err-question-4
returns-in_err-question-4 c = stops (row_14 c.before.before.before) c.in_err-question-4.was c.from_residual-in_err-question-4.ensures.1

pub returns-in_err-question-5 : goal.returns-in_err-question-5
returns-in_err-question-5 c = stops (row_15 c.before.before.before) c.in_err-question-5.was c.from_residual-in_err-question-5.ensures.1

pub returns-in_err-question-6 : goal.returns-in_err-question-6
returns-in_err-question-6 c = stops (row_16 c.before.before.before) c.in_err-question-6.was c.from_residual-in_err-question-6.ensures.1

pub returns-in_err-question-7 : goal.returns-in_err-question-7
returns-in_err-question-7 c = stops (row_17 c.before.before.before) c.in_err-question-7.was c.from_residual-in_err-question-7.ensures.1

pub returns-in_err-question-8 : goal.returns-in_err-question-8
returns-in_err-question-8 c = stops (row_18 c.before.before.before) c.in_err-question-8.was c.from_residual-in_err-question-8.ensures.1

pub returns-in_err-question-9 : goal.returns-in_err-question-9
returns-in_err-question-9 c = stops (row_19 c.before.before.before) c.in_err-question-9.was c.from_residual-in_err-question-9.ensures.1

pub returns-in_err-question-10 : goal.returns-in_err-question-10
returns-in_err-question-10 c = stops (row_20 c.before.before.before) c.in_err-question-10.was c.from_residual-in_err-question-10.ensures.1

pub returns-in_err-question-11 : goal.returns-in_err-question-11
returns-in_err-question-11 c = stops (row_21 c.before.before.before) c.in_err-question-11.was c.from_residual-in_err-question-11.ensures.1

pub returns-in_err-question-12 : goal.returns-in_err-question-12
returns-in_err-question-12 c = stops (row_22 c.before.before.before) c.in_err-question-12.was c.from_residual-in_err-question-12.ensures.1

pub returns-in_err-question-13 : goal.returns-in_err-question-13
returns-in_err-question-13 c = stops (row_23 c.before.before.before) c.in_err-question-13.was c.from_residual-in_err-question-13.ensures.1

pub returns-in_err-question-14 : goal.returns-in_err-question-14
returns-in_err-question-14 c = stops (row_24 c.before.before.before) c.in_err-question-14.was c.from_residual-in_err-question-14.ensures.1

pub returns-in_err-question-15 : goal.returns-in_err-question-15
returns-in_err-question-15 c = stops (row_25 c.before.before.before) c.in_err-question-15.was c.from_residual-in_err-question-15.ensures.1

pub returns-in_err-question-16 : goal.returns-in_err-question-16
returns-in_err-question-16 c = stops (row_26 c.before.before.before) c.in_err-question-16.was c.from_residual-in_err-question-16.ensures.1

pub returns-in_err-question-17 : goal.returns-in_err-question-17
returns-in_err-question-17 c = stops (row_27 c.before.before.before) c.in_err-question-17.was c.from_residual-in_err-question-17.ensures.1

pub returns-in_err-question-18 : goal.returns-in_err-question-18
returns-in_err-question-18 c = stops (row_28 c.before.before.before) c.in_err-question-18.was c.from_residual-in_err-question-18.ensures.1

pub returns : goal.returns
returns c = ends (row_29 c)
