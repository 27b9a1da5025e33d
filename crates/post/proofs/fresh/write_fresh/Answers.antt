-- `post::fresh::write_fresh` meets its contract. By the head that is copied and the leads behind it. Assumes nothing.
use mathlib.Core.Path.{◌∙◌}
use Rattle.post.proofs.FreshPosts.{fresh_post}
use Rattle.post.proofs.fresh.write_fresh.Goals as goal

pub returns : goal.returns
returns c =
    let copied = c.copy_from_slice in
    c.write_fresh_leads.ensures ∙ fresh_post c.args.head copied.new.self _ (copied.ensures.after ∙ c.bytes.ensures)
