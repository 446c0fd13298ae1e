-- What was taken from a source, and what came of it.
use Rattle.std.specs.Prelude.{◌≡◌, ◌⊎◌, ℕ, ◌+◌, List, ◌++◌, length, Option, IfSome, Result}
use Rattle.std.specs.Io.KnownBytes.{Consumes}
use Rattle.faim_base.specs.declared.judgement.Refused as refusals
use Rattle.faim_message.specs.declared.form.Form.TheVariants.{Input}
use Rattle.faim_message.specs.Refusal.{StopsAt, Refuses}
use Rattle.faim_stream.specs.Fed.{Held, IsFed, Judges}
use Rattle.faim_top.specs.declared.query.Query.{Query}
use Rattle.faim_top.specs.declared.status.Status.{Status}
use Rattle.faim_top.specs.declared.status.Status.TheVariants.{Done, Refused}
use Rattle.faim_top.specs.declared.status.Reason.{Reason}
use Rattle.faim_top.specs.Seen.{Seen, LosesAtMost}
use Rattle.faim_top.specs.Ends.{Answers, ReadToEnd, input_of}

-- a piece of so many bytes was taken and fed to a decoder, which answered this
pub record FeedsOn (count : ℕ) (left : Seen (Option (List ℕ))) (old new : Held) (answer : Result (Unit {0}) refusals.Refused) : Type 0 where
  pub piece : List ℕ
  pub counted : length piece ≡ count
  pub taken : Consumes left.before left.after piece
  pub fed : (before : List ℕ) → IsFed old before → IsFed new (before ++ piece)
  pub judged : (before : List ℕ) → IsFed old before → Judges old.form (before ++ piece) answer

-- all bytes that were taken were fed to a decoder of Input messages, and they stop nowhere
pub record FedAll (count : ℕ) (left : Seen (Option (List ℕ))) (decoder : Held) : Type 0 where
  pub bytes : List ℕ
  pub counted : length bytes ≡ count
  pub taken : Consumes left.before left.after bytes
  pub fed : IsFed decoder bytes
  pub input : decoder.form ≡ Input
  pub going : (p : ℕ) → StopsAt Input bytes p → ⊥

-- what a source had is refused
abbrev pub RefusesSource : Seen (Option (List ℕ)) → refusals.Refused → Type 0
RefusesSource left why = IfSome left.before (λ text. Refuses Input text why)

-- where the bytes that a source had stop beginning a message, no more than 4,096 bytes beyond that place were taken
abbrev pub TakesLittleBeyond : Seen (Option (List ℕ)) → Type 0
TakesLittleBeyond left = IfSome left.before (λ text. (p : ℕ) → StopsAt Input text p → LosesAtMost (p + 4_096) left)

-- the query's answer to all that a source had, which was read to its end, or refused
pub record AnswersSource (query : Query) (left : Seen (Option (List ℕ))) (status : Status) (bytes : List ℕ) : Type 0 where
  pub whole : IfSome (input_of query left.before) (λ text. Answers query text status bytes)
  pub proper : ((status ≡ Done) × ReadToEnd query left.after) ⊎ ((why : Reason) × (status ≡ Refused why))
