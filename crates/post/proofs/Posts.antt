-- A post's bytes: read again they are the same post, and they are good where its head and its leads are; a good state that was handed in,
-- read and written again, is the same. Assumes nothing.
use mathlib.Core.List.{List, [], ◌∷◌, ◌++◌, append-nil}
use mathlib.Core.Path.{◌≡◌, sym, ap, ◌∙◌}
use Prim.Native.Nat.{ℕ, zero, suc, ◌+◌, ◌*◌, ◌≤◌, ◌<◌}
use native.Mathlib.Omega.{arith}
use lib.Dec.{T}
use lib.ListN.{length, get_or, take, drop, length-append, length-drop, drop_of_length-le}
use lib.Seq.{length-take-le, get_or-drop}
use borrow.Author.Tests.{eq-eqb}
use Rattle.little_endian.specs.Numbers.{byte_at, u16_at, u64_at, low_byte, high_byte}
use Rattle.common.proofs.Spelled.{spelled_is}
use Rattle.little_endian.proofs.Bytes.{u16_back, u32_back, low_byte_back, high_byte_back, low_half_back, high_half_back}
use Rattle.common.proofs.Bools.{is_true}
use Rattle.lead.specs.Good.{good_lead}
use Rattle.lead.specs.declared.state.Lead.{Lead}
use Rattle.lead.specs.Leads.{fresh}
use Rattle.lead.proofs.Goodness.{fresh_good}
use Rattle.lead_records.specs.States.{state_size, decode, encode, good_state}
use Rattle.lead_records.proofs.RoundTrip.{decode_encode, encode_decode, encode_length, encode_good, good_clear, good_lead_lem}
use Rattle.common.specs.Parts.{joined}
use Rattle.post.specs.Heads.{head_size, state_length, head_of, head_bytes, state_part}
use Rattle.post.specs.Rules.{post_bytes}
use Rattle.post.specs.Refusals.{good_head, good_post}
use Rattle.post.specs.Calls.{leads_of}
use Rattle.post.specs.declared.head.Head.{Head}
use Rattle.common.proofs.Joined.{joined_same, joined_length, part_joined, records_back}
use Rattle.common.proofs.Every.{every_of, every_at}
use Rattle.post.proofs.FreshPosts.{head_length}
use Rattle.post.proofs.Taken.{post_head, post_length, post_leads}

-- the head, whatever stands behind it
pub head_back : (h : Head) (rest : List ℕ) → head_of (head_bytes h ++ rest) ≡ h
unfolding head_of head_bytes
head_back h rest = rw (u16_back h.ratings.volts, u32_back h.ratings.resistance)

-- a post whose head setup takes and whose leads are good
pub record Sound (h : Head) (leads : ℕ → Lead) : Type 0 where
  pub head : T (good_head h)
  pub each : (k : ℕ) → k < h.leads → T (good_lead h.ratings (leads k))

module _ (h : Head) (leads : ℕ → Lead) where
  abbrev bytes : List ℕ
  bytes = post_bytes h leads

  pub post_head_back : head_of bytes ≡ h
  unfolding post_bytes
  post_head_back = head_back h (joined h.leads (λ k. encode (leads k)))

  pub post_sized : length bytes ≡ state_length h.leads
  unfolding post_bytes
  post_sized =
      length-append (head_bytes h) _
      ∙ rw (head_length h, joined_length state_size (λ k. encode (leads k)) (λ k. encode_length (leads k)) h.leads)

  part_back : (k : ℕ) → k < h.leads → state_part bytes k ≡ encode (leads k)
  unfolding post_bytes
  part_back k below =
      part_joined state_size (λ j. encode (leads j)) (λ j. encode_length (leads j)) (head_bytes h) head_size h.leads k (head_length h) below

  pub lead_back : (k : ℕ) → k < h.leads → leads_of bytes k ≡ leads k
  unfolding leads_of
  lead_back k below = ap decode (part_back k below) ∙ decode_encode (leads k)

  -- 2026-01: bytes 20 to 27 of its record are the lead's count
  pub energy_back : (k : ℕ) → k < h.leads → u64_at (state_part bytes k) 20 ≡ (leads k).energy
  unfolding leads_of decode
  energy_back k below = ap (λ (l : Lead). l.energy) (lead_back k below)

  pub sound_good : Sound h leads → T (good_post bytes)
  unfolding good_post
  sound_good s =
      rw (post_head_back, eq-eqb _ _ post_sized, is_true (good_head h) s.head)
      (every_of h.leads (λ k. good_state h.ratings (state_part bytes k))
      (λ k below. rw (part_back k below, encode_good (leads k) h.ratings) (s.each k below)))

pub fresh_sound : (h : Head) → T (good_head h) → Sound h (λ k. fresh)
fresh_sound h t = record { head = t; each = λ k below. fresh_good h.ratings }

small_take : (m : ℕ) (l : List ℕ) → ((n : ℕ) → get_or l n 0 < 256) → (n : ℕ) → get_or (take m l) n 0 < 256
small_take zero l small n = omega arith
small_take (suc m) [] small n = omega arith
small_take (suc m) (x ∷ l) small zero = small 0
small_take (suc m) (x ∷ l) small (suc n) = small_take m l (λ j. small (suc j)) n

-- a good state that was handed in, read and written again
module _ (state : List ℕ) (good : T (good_post state)) where
  abbrev read : Head
  read = head_of state

  abbrev own_record_at : ℕ → List ℕ
  own_record_at k = state_part state k

  record_good : (k : ℕ) → k < read.leads → T (good_state read.ratings (own_record_at k))
  record_good = every_at read.leads (λ k. good_state read.ratings (own_record_at k)) (post_leads state good)

  pub read_sound : Sound read (leads_of state)
  unfolding leads_of
  read_sound = record { head = post_head state good; each = λ k below. good_lead_lem read.ratings (own_record_at k) (record_good k below) }

  module _ (small : (n : ℕ) → get_or state n 0 < 256) where
    low : (n : ℕ) → low_byte (u16_at state n) ≡ byte_at state n
    low n = low_byte_back (byte_at state n) (byte_at state (n + 1)) (small n)

    high : (n : ℕ) → high_byte (u16_at state n) ≡ byte_at state (n + 1)
    high n = high_byte_back (byte_at state n) (byte_at state (n + 1)) (small n)

    half_small : u16_at state 4 < 65536
    half_small = omega (arith, small 4, small 5)

    long : head_size ≤ length state
    long = omega (arith, post_length state good)

    head_again : head_bytes read ≡ take head_size state
    unfolding head_bytes head_of
    head_again =
        rw (
          low_half_back (u16_at state 4) (u16_at state 6) half_small,
          high_half_back (u16_at state 4) (u16_at state 6) half_small,
          low 2,
          high 2,
          low 4,
          high 4,
          low 6,
          high 6,
        )
        (ap (take head_size) (spelled_is 0 state head_size 0 long))

    fits : (k : ℕ) → k < read.leads → head_size + state_size * k + state_size ≤ length state
    fits k below = omega (arith, post_length state good)

    record_sized : (k : ℕ) → k < read.leads → length (own_record_at k) ≡ state_size
    record_sized k below =
        length-take-le state_size (drop (head_size + state_size * k) state) (rw length-drop (omega (arith, fits k below)))

    record_small : (k n : ℕ) → get_or (own_record_at k) n 0 < 256
    record_small k =
        small_take state_size (drop (head_size + state_size * k) state)
        (λ n. rw (get_or-drop (head_size + state_size * k) state n 0) (small (head_size + state_size * k + n)))

    record_again : (k : ℕ) → k < read.leads → encode (leads_of state k) ≡ own_record_at k
    unfolding leads_of
    record_again k below =
        encode_decode (own_record_at k) (record_sized k below) (record_small k) (good_clear read.ratings (own_record_at k) (record_good k below))

    pub read_again : post_bytes read (leads_of state) ≡ state
    unfolding post_bytes
    read_again =
        let none : length state ≤ head_size + state_size * read.leads = omega (arith, post_length state good) in
        ap (λ (x : List ℕ). x ++ joined read.leads (λ k. encode (leads_of state k))) head_again
        ∙ ap (λ (x : List ℕ). take head_size state ++ x) (joined_same read.leads (λ k. encode (leads_of state k)) own_record_at record_again)
        ∙ sym (append-nil _)
        ∙ ap (λ (x : List ℕ). take head_size state ++ joined read.leads own_record_at ++ x) (sym (drop_of_length-le state none))
        ∙ records_back head_size state_size state read.leads
