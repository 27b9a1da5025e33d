-- What those above read of an input and of an output. Assumes nothing.
use mathlib.Core.Bool.{Bool, true, false, cond}
use mathlib.Core.List.{List, [], ◌∷◌, ◌++◌}
use mathlib.Core.Path.{◌≡◌, refl}
use Prim.Native.Nat.{ℕ}
use lib.ListN.{length, length-append, replicate}
use Rattle.std.specs.Prelude.{Option}
use Rattle.readings.specs.declared.Measured.{Measured}
use Rattle.little_endian.specs.Numbers.{byte_at, u16_at}
use Rattle.little_endian.proofs.Bytes.{u16_back}
use Rattle.frames.specs.Heard.{newest_status}
use Rattle.frames.specs.Sent.{offer_bytes, report_bytes}
use Rattle.common.specs.Tests.{between}
use Rattle.lead.specs.Power.{offered}
use Rattle.lead.specs.declared.state.Lead.{Lead}
use Rattle.lead.specs.declared.state.Ratings.{Ratings}
use Rattle.lead_records.specs.Inputs.{contacts_of, frame_records, input_of}
use Rattle.lead_records.specs.Outputs.{output_size, frames_size, offer_of, report_of, while_sending, shown_bytes, output_of}

sent_length : (p : ℕ) (frame : List ℕ) → length frame ≡ 8 → length (while_sending p frame) ≡ 8
sent_length p frame e = go (between 1 9 p)
  where
    go : (b : Bool) → length (cond b frame (0 ∷ 0 ∷ 0 ∷ 0 ∷ 0 ∷ 0 ∷ 0 ∷ 0 ∷ [])) ≡ 8
    go true = e
    go false = refl

module _ (c : Ratings) (level : ℕ) (lock : Bool) (reading : Option Measured) (s : Lead) where
  offer_length : length (offer_bytes (offer_of c level s)) ≡ 8
  unfolding offer_bytes
  offer_length = refl

  report_length : length (report_bytes (report_of lock reading s)) ≡ 8
  unfolding report_bytes
  report_length = refl

  pub output_length_lem : length (output_of c level lock reading s) ≡ output_size
  unfolding output_of shown_bytes
  output_length_lem =
      let offer = while_sending s.stage.phase (offer_bytes (offer_of c level s)) in
      let report = while_sending s.stage.phase (report_bytes (report_of lock reading s)) in
      rw (
        length-append (shown_bytes s ++ offer) report,
        length-append (shown_bytes s) offer,
        sent_length s.stage.phase (offer_bytes (offer_of c level s)) offer_length,
        sent_length s.stage.phase (report_bytes (report_of lock reading s)) report_length,
      )

  -- byte 1 of the output is the reason, byte 2 the command
  pub output_reason : byte_at (output_of c level lock reading s) 1 ≡ s.stage.reason
  unfolding output_of shown_bytes
  output_reason = refl

  pub output_command : byte_at (output_of c level lock reading s) 2 ≡ s.command
  unfolding output_of shown_bytes
  output_command = refl

  -- what is read behind the first eight bytes: from both frames while they are sent, else from zeros
  from_frames :
      (look : List ℕ → ℕ) (sent : ℕ)
      → look (shown_bytes s ++ offer_bytes (offer_of c level s) ++ report_bytes (report_of lock reading s)) ≡ sent
      → look (shown_bytes s ++ replicate frames_size 0) ≡ 0
      → look (output_of c level lock reading s) ≡ cond (between 1 9 s.stage.phase) sent 0
  unfolding output_of shown_bytes
  from_frames look sent there nothing = go (between 1 9 s.stage.phase) refl
    where
      go : (b : Bool) → between 1 9 s.stage.phase ≡ b → look (output_of c level lock reading s) ≡ cond b sent 0
      go true e = rw e there
      go false e = rw e nothing

  -- bytes 4 and 5 of H'108, which stands from byte 8 on, are the threshold while it is sent
  pub output_threshold : u16_at (output_of c level lock reading s) 12 ≡ cond (between 1 9 s.stage.phase) s.threshold 0
  unfolding shown_bytes offer_bytes
  output_threshold = from_frames (λ (b : List ℕ). u16_at b 12) s.threshold (u16_back s.threshold) refl

  -- byte 3 is what is offered
  pub output_offer : byte_at (output_of c level lock reading s) 11 ≡ cond (between 1 9 s.stage.phase) (offered c level s) 0
  unfolding shown_bytes offer_bytes
  output_offer = from_frames (λ (b : List ℕ). byte_at b 11) (offered c level s) refl refl

module _ (b : List ℕ) (resistance : ℕ) where
  pub input_contacts : (input_of b resistance).contacts ≡ contacts_of (byte_at b 0)
  unfolding input_of
  input_contacts = refl

  pub input_status : (input_of b resistance).frames.status ≡ newest_status (byte_at b 2) (frame_records b)
  unfolding input_of
  input_status = refl
