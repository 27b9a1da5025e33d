-- `receiver::chip::drain` meets its contract. By the mailbox that is found, or none. Assumes nothing.
use Rattle.std.proofs.Common.{rules}
use Rattle.receiver.proofs.Coded.{one_drained, none_drained}
use Rattle.receiver.proofs.chip.drain.Goals as goal

pub returns-in-Some : goal.returns-in-Some
returns-in-Some c =
    let a = c.args in
    one_drained a.receiver.now a.frame.now c.in-Some.mailbox c.without_one.result c.unwrap.result c.in-Some.ensures.0 (search rules)
    c.without_one.ensures

pub returns-in_default : goal.returns-in_default
returns-in_default c = none_drained c.args.receiver.now c.args.frame.now c.in_default.ensures.0
