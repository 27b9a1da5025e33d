-- One name that opens the rules that a computed tick goes through, of this crate and of those below.
use Rattle.std.specs.Prelude.{Bool, true}
use Rattle.common.specs.All.{common_rules}
use Rattle.sharing.specs.All.{sharing_rules}
use Rattle.lead_records.specs.All.{lead_records_rules}
use Rattle.post.specs.Heads.{head_of, head_bytes}
use Rattle.post.specs.Rules.{decided_at, level_after, lead_after, shown_after, post_bytes}
use Rattle.post.specs.Refusals.{head_rows, setup_rows, good_post, input_rows, tick_rows}
use Rattle.post.specs.Calls.{setup_of, leads_of, tick_of}

unfoldable pub post_rules : Bool
unfolding common_rules sharing_rules lead_records_rules head_of head_bytes decided_at level_after lead_after shown_after post_bytes head_rows setup_rows good_post input_rows tick_rows setup_of leads_of tick_of
post_rules = true
