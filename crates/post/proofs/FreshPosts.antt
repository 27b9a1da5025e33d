-- A fresh post, written as its head and then its leads. Assumes nothing.
use mathlib.Core.List.{List, ◌++◌}
use mathlib.Core.Path.{◌≡◌, refl, ap, ◌∙◌}
use Prim.Native.Nat.{ℕ}
use lib.ListN.{length, take}
use lib.Seq.{take_at}
use Rattle.lead.specs.Leads.{fresh}
use Rattle.lead_records.specs.States.{encode}
use Rattle.common.specs.Parts.{joined}
use Rattle.post.specs.Heads.{head_size, head_bytes}
use Rattle.post.specs.Rules.{post_bytes}
use Rattle.post.specs.declared.head.Head.{Head}

pub head_length : (h : Head) → length (head_bytes h) ≡ head_size
unfolding head_bytes
head_length h = refl

-- what the head written over the state's beginning, and then the leads, leave of it
pub fresh_post :
    (h : Head) (b rest : List ℕ)
    → b ≡ head_bytes h
    → take head_size (b ++ rest) ++ joined h.leads (λ k. encode fresh) ≡ post_bytes h (λ k. fresh)
unfolding post_bytes
fresh_post h b rest e =
    ap (λ (x : List ℕ). x ++ joined h.leads (λ k. encode fresh)) (take_at b rest head_size (ap length e ∙ head_length h) ∙ e)
