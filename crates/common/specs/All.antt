-- One name that opens the rules that a computed tick goes through, of this crate and of those below.
use Rattle.std.specs.Prelude.{Bool, true}
use Rattle.common.specs.Parts.{joined, every}
use Rattle.common.specs.Refusals.{done_unless}

unfoldable pub common_rules : Bool
unfolding joined every done_unless
common_rules = true
