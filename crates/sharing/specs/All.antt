-- One name that opens the rules that a computed tick goes through, of this crate and of those below.
use Rattle.std.specs.Prelude.{Bool, true}
use Rattle.sharing.specs.Level.{total_at, level_of}

unfoldable pub sharing_rules : Bool
unfolding total_at level_of
sharing_rules = true
