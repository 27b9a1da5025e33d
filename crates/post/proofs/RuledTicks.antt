-- A tick of a sound post's bytes is the rules' tick of that post, which is sound again. Assumes nothing.
use mathlib.Core.Bool.{false, cond}
use mathlib.Core.List.{List, [], ◌++◌}
use mathlib.Core.Path.{◌≡◌, refl, ap, ◌∙◌}
use Prim.Native.Nat.{ℕ, ◌<◌}
use lib.ListN.{length}
use lib.Seq.{take_at}
use Rattle.common.specs.Parts.{joined}
use Rattle.common.specs.Refusals.{refusal_of, done_unless}
use Rattle.common.proofs.Bools.{is_true}
use Rattle.common.proofs.Joined.{joined_same, part_joined}
use Rattle.common.specs.Tests.{between}
use Rattle.little_endian.specs.Numbers.{byte_at, u16_at}
use Rattle.sharing.proofs.Laws.{level_same}
use Rattle.lead.specs.Power.{wanted_watts, offered, commanded}
use Rattle.lead.specs.Moves.{decide}
use Rattle.lead.specs.declared.state.Lead.{Lead}
use Rattle.lead.proofs.Goodness.{good_stays}
use Rattle.lead_records.specs.States.{encode}
use Rattle.lead_records.specs.Outputs.{output_size}
use Rattle.lead_records.proofs.Shown.{output_length_lem, output_reason, output_command, output_threshold, output_offer}
use Rattle.post.specs.Heads.{head_size, head_of, head_bytes, output_part}
use Rattle.post.specs.Rules.{TickInput, tick_input, input_at, decided_at, want_after, level_after, lead_after, shown_at, shown_after, post_bytes}
use Rattle.post.specs.Refusals.{good_post, input_rows, tick_rows}
use Rattle.post.specs.Calls.{leads_of, state_after, Ticked, tick_of}
use Rattle.post.specs.declared.head.Head.{Head}
use Rattle.post.proofs.FreshPosts.{head_length}
use Rattle.post.proofs.Taken.{good_taken}
use Rattle.post.proofs.Posts.{Sound, post_head_back, lead_back, sound_good}

-- a tick looks at the post's leads alone
module _ (h : Head) (i : TickInput) (v w : ℕ → Lead) (same : (k : ℕ) → k < h.leads → v k ≡ w k) where
  decided_same : (k : ℕ) → k < h.leads → decided_at h i v k ≡ decided_at h i w k
  unfolding decided_at
  decided_same k below = ap (decide h.ratings (input_at h i k)) (same k below)

  level_agrees : level_after h i v ≡ level_after h i w
  unfolding level_after
  level_agrees =
      level_same h.leads (want_after h i v) (want_after h i w) i.limit
      (λ k below. ap (wanted_watts h.ratings) (decided_same k below))

  after_same : (k : ℕ) → k < h.leads → lead_after h i v k ≡ lead_after h i w k
  unfolding lead_after
  after_same k below =
      ap (λ (n : ℕ). commanded h.ratings n (decided_at h i v k)) level_agrees
      ∙ ap (commanded h.ratings (level_after h i w)) (decided_same k below)

  shown_same : shown_after h i v ≡ shown_after h i w
  unfolding shown_after
  shown_same =
      joined_same h.leads (λ k. shown_at h i v k) (λ k. shown_at h i w k) (λ k below. rw (level_agrees, after_same k below))

-- a sound post stays sound
pub sound_stays : (h : Head) (i : TickInput) (leads : ℕ → Lead) → Sound h leads → Sound h (lead_after h i leads)
unfolding lead_after decided_at
sound_stays h i leads s =
    record {
      head = s.head;
      each =
          λ k below.
          good_stays h.ratings (input_at h i k) (leads k) (good_taken h s.head).volts_least (level_after h i leads) (s.each k below);
    }

module _ (h : Head) (input : List ℕ) (leads : ℕ → Lead) where
  abbrev i : TickInput
  i = tick_input input

  -- what a tick of a sound post's bytes returns and leaves: nothing but its input and its output can be refused
  abbrev pub ruled_tick : List ℕ → Ticked
  ruled_tick output =
      done_unless (refusal_of (input_rows h.leads input (length output)))
      (λ n. record { number = n; state = post_bytes h leads; output = output })
      (record { number = 0; state = post_bytes h (lead_after h i leads); output = shown_after h i leads })

  module _ (s : Sound h leads) where
    abbrev mine : List ℕ
    mine = post_bytes h leads

    refusal_is : (room : ℕ) → refusal_of (tick_rows mine input room) ≡ refusal_of (input_rows h.leads input room)
    unfolding tick_rows
    refusal_is room = rw (is_true (good_post mine) (sound_good h leads s), post_head_back h leads)

    lead_is : (k : ℕ) → k < h.leads → lead_after h i (leads_of mine) k ≡ lead_after h i leads k
    lead_is = after_same h i (leads_of mine) leads (lead_back h leads)

    state_is : state_after mine i ≡ post_bytes h (lead_after h i leads)
    unfolding post_bytes
    state_is =
        rw (take_at (head_bytes h) (joined h.leads (λ k. encode (leads k))) head_size (head_length h))
        (ap (λ (g : Head). head_bytes h ++ joined g.leads (λ k. encode (lead_after g i (leads_of mine) k))) (post_head_back h leads)
        ∙ ap (λ (r : List ℕ). head_bytes h ++ r)
        (joined_same h.leads (λ k. encode (lead_after h i (leads_of mine) k)) (λ k. encode (lead_after h i leads k))
        (λ k below. ap encode (lead_is k below))))

    shown_is : shown_after (head_of mine) i (leads_of mine) ≡ shown_after h i leads
    shown_is =
        ap (λ (g : Head). shown_after g i (leads_of mine)) (post_head_back h leads) ∙ shown_same h i (leads_of mine) leads (lead_back h leads)

    pub tick_is : (output : List ℕ) → tick_of mine input output ≡ ruled_tick output
    unfolding tick_of
    tick_is output = rw (refusal_is (length output), state_is, shown_is)

-- what a tick's output says of lead k
module _ (h : Head) (i : TickInput) (leads : ℕ → Lead) (k : ℕ) (below : k < h.leads) where
  shown_part : output_part (shown_after h i leads) k ≡ shown_at h i leads k
  unfolding shown_after
  shown_part =
      part_joined output_size (λ j. shown_at h i leads j) (λ j. output_length_lem h.ratings _ _ _ _) [] 0 h.leads k refl below

  -- byte 1 is its reason, byte 2 its command
  pub shown_reason : byte_at (output_part (shown_after h i leads) k) 1 ≡ (lead_after h i leads k).stage.reason
  shown_reason = ap (λ (b : List ℕ). byte_at b 1) shown_part ∙ output_reason h.ratings _ _ _ _

  pub shown_command : byte_at (output_part (shown_after h i leads) k) 2 ≡ (lead_after h i leads k).command
  shown_command = ap (λ (b : List ℕ). byte_at b 2) shown_part ∙ output_command h.ratings _ _ _ _

  -- bytes 12 and 13 are its threshold while frames are sent
  pub shown_threshold :
      u16_at (output_part (shown_after h i leads) k) 12
      ≡ cond (between 1 9 (lead_after h i leads k).stage.phase) (lead_after h i leads k).threshold 0
  shown_threshold = ap (λ (b : List ℕ). u16_at b 12) shown_part ∙ output_threshold h.ratings _ _ _ _

  -- 2026-05: byte 11, which is byte 3 of H'108, is what it is offered, while frames are sent
  pub shown_offer :
      byte_at (output_part (shown_after h i leads) k) 11
      ≡ cond (between 1 9 (lead_after h i leads k).stage.phase) (offered h.ratings (level_after h i leads) (lead_after h i leads k)) 0
  shown_offer = ap (λ (b : List ℕ). byte_at b 11) shown_part ∙ output_offer h.ratings _ _ _ _

-- bytes that are no good state
pub tick_unusable :
    (state input output : List ℕ)
    → good_post state ≡ false
    → tick_of state input output ≡ record { number = 6; state = state; output = output }
unfolding tick_of tick_rows done_unless
tick_unusable state input output bad = rw bad
