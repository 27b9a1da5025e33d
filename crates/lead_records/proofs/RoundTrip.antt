-- A lead's state written and read again is the same, good bytes read and written again are the same, and both are good together.
-- Assumes nothing.
use mathlib.Core.Bool.{Bool, true}
use mathlib.Core.List.{List, [], ◌∷◌}
use mathlib.Core.Path.{◌≡◌, refl, ap, ◌∙◌}
use Prim.Native.Nat.{ℕ, ◌+◌, ◌-◌, ◌≤◌, ◌<◌}
use native.Mathlib.Omega.{arith}
use lib.Dec.{T, leb, eqb, leb→le, eqb→eq}
use lib.ListN.{length, get_or, drop, replicate, length-drop}
use lib.Ieee.Fits.{and_l, and_r}
use borrow.Author.Tests.{le-leb}
use Rattle.little_endian.specs.Numbers.{byte_at, u16_at, u32_at, low_byte, high_byte, low_half, high_half, low_word, high_word}
use Rattle.little_endian.specs.Flags.{bit_at, byte_of}
use Rattle.lead.specs.Good.{good_lead}
use Rattle.lead.specs.declared.state.Lead.{Lead}
use Rattle.lead.specs.declared.state.Ratings.{Ratings}
use Rattle.common.proofs.Spelled.{spelled_is}
use Rattle.little_endian.proofs.Bits.{bit_back, byte_below}
use Rattle.little_endian.proofs.Bytes.{u16_back, u32_back, u64_back, low_byte_back, high_byte_back, low_half_back, high_half_back, low_word_back, high_word_back}
use Rattle.common.proofs.Bools.{up_to_at}
use Rattle.lead_records.specs.States.{state_size, seen_byte, spare_from, spare_bytes, unused_clear, decode, encode, all_zero, good_state}

pub decode_encode : (s : Lead) → decode (encode s) ≡ s
unfolding decode encode
decode_encode s =
    let car = s.car in
    let seen = bit_back (car.battery.seen ∷ car.time.seen ∷ car.status.seen ∷ []) in
    rw (
      u16_back s.threshold,
      u16_back car.battery.value,
      u16_back car.status.value.target,
      u32_back s.stage.age,
      u32_back (low_word s.energy),
      u32_back (high_word s.energy),
      u64_back s.energy,
      seen 0,
      seen 1,
      seen 2,
    )

seen_again : (x : ℕ) → x ≤ 7 → byte_of (bit_at 0 x ∷ bit_at 1 x ∷ bit_at 2 x ∷ []) ≡ x
seen_again x h =
    eqb→eq (byte_of (bit_at 0 x ∷ bit_at 1 x ∷ bit_at 2 x ∷ [])) x
    (up_to_at 7 (λ n. eqb (byte_of (bit_at 0 n ∷ bit_at 1 n ∷ bit_at 2 n ∷ [])) n) tt x h)

zeros : (l : List ℕ) → T (all_zero l) → l ≡ replicate (length l) 0
zeros [] t = refl
zeros (x ∷ l) t =
    rw (eqb→eq x 0 (and_l (eqb x 0) (all_zero l) t)) (ap (λ r. 0 ∷ r) (zeros l (and_r (eqb x 0) (all_zero l) t)))

module _ (b : List ℕ) (long : length b ≡ state_size) (small : (n : ℕ) → get_or b n 0 < 256) (clear : T (unused_clear b)) where
  abbrev few : Bool
  few = leb (byte_at b 7) 7

  spare_zero : drop spare_from b ≡ spare_bytes
  spare_zero =
      let rest : length (drop spare_from b) ≡ state_size - spare_from = length-drop spare_from b ∙ ap (λ n. n - spare_from) long in
      rw rest at (zeros (drop spare_from b) (and_r few (all_zero (drop spare_from b)) clear))

  low : (n : ℕ) → low_byte (u16_at b n) ≡ get_or b n 0
  low n = low_byte_back (get_or b n 0) (get_or b (n + 1) 0) (small n)

  high : (n : ℕ) → high_byte (u16_at b n) ≡ get_or b (n + 1) 0
  high n = high_byte_back (get_or b n 0) (get_or b (n + 1) 0) (small n)

  half_small : (n : ℕ) → u16_at b n < 65536
  half_small n = omega (arith, small n, small (n + 1))

  low_half_lem : (n : ℕ) → low_half (u32_at b n) ≡ u16_at b n
  low_half_lem n = low_half_back (u16_at b n) (u16_at b (n + 2)) (half_small n)

  high_half_lem : (n : ℕ) → high_half (u32_at b n) ≡ u16_at b (n + 2)
  high_half_lem n = high_half_back (u16_at b n) (u16_at b (n + 2)) (half_small n)

  word_small : u32_at b 20 < 4294967296
  word_small = omega (arith, half_small 20, half_small 22)

  -- the other way round, for bytes whose unused bits and bytes are clear, as those of every good state are
  pub encode_decode : encode (decode b) ≡ b
  unfolding encode decode
  encode_decode =
      rw (
        low_word_back (u32_at b 20) (u32_at b 24) word_small,
        high_word_back (u32_at b 20) (u32_at b 24) word_small,
        low_half_lem 16,
        high_half_lem 16,
        low_half_lem 20,
        high_half_lem 20,
        low_half_lem 24,
        high_half_lem 24,
        low 8,
        high 8,
        low 10,
        high 10,
        low 12,
        high 12,
        low 16,
        high 16,
        low 18,
        high 18,
        low 20,
        high 20,
        low 22,
        high 22,
        low 24,
        high 24,
        low 26,
        high 26,
        seen_again (get_or b 7 0) (leb→le (byte_at b 7) 7 (and_l few (all_zero (drop spare_from b)) clear)),
        ← spare_zero,
      )
      (spelled_is 0 b spare_from 0 (omega arith))

module _ (s : Lead) where
  pub encode_length : length (encode s) ≡ state_size
  unfolding encode
  encode_length = refl

  encode_seen : leb (byte_at (encode s) 7) 7 ≡ true
  unfolding encode
  encode_seen =
      let few : seen_byte s.car < 8 = byte_below (s.car.battery.seen ∷ s.car.time.seen ∷ s.car.status.seen ∷ []) in
      le-leb (seen_byte s.car) 7 (omega arith)

  encode_spare : all_zero (drop spare_from (encode s)) ≡ true
  unfolding encode
  encode_spare = refl

  -- what is written of a lead is good where the lead is
  pub encode_good : (c : Ratings) → good_state c (encode s) ≡ good_lead c s
  unfolding good_state
  encode_good c = rw (encode_seen, encode_spare, decode_encode s)

-- what a good state says
module _ (c : Ratings) (b : List ℕ) (good : T (good_state c b)) where
  pub good_clear : T (unused_clear b)
  unfolding good_state
  good_clear = and_l (unused_clear b) (good_lead c (decode b)) good

  pub good_lead_lem : T (good_lead c (decode b))
  unfolding good_state
  good_lead_lem = and_r (unused_clear b) (good_lead c (decode b)) good
