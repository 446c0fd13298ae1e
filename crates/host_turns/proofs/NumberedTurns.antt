-- The turn at a text, once it is read as a message with an identifier.
use Rattle.std.proofs.Common.{◌≡◌, ℕ, List, ap, sym, ◌∙◌}
use Rattle.host_ledger.specs.declared.config.Config.{Config}
use Rattle.host_ledger.specs.declared.entries.Entry.{Entry}
use Rattle.faim_model.specs.Submissions.{Submission, submission}
use Rattle.faim_model.specs.Turns.{effective, submitted, turn_at}
use Rattle.host_turns.specs.declared.reading.ReadText.{ReadText}
use Rattle.host_turns.specs.declared.reading.ReadText.TheVariants as read
use Rattle.host_turns.specs.declared.reading.Numbered.{Numbered}
use Rattle.host_turns.specs.Reading.{numbered_of, submission_of}

pub numbered_turn : (c : Config) (es : List Entry) (line : List ℕ) (reading moment env : ℕ) (text : List ℕ) (r : ReadText) (m : Numbered)
    → r ≡ read.Numbered m → submission_of r ≡ submission env text → env ≡ c.env → moment ≡ effective es reading
    → turn_at c es line moment (numbered_of m) ≡ submitted c es line reading text
numbered_turn c es line reading moment env text r m is what own now =
    let same : numbered_of m ≡ submission c.env text = sym (ap (λ (x : ReadText). submission_of x) is) ∙ what ∙ ap (λ (e : ℕ). submission e text) own in
    ap (λ (t : ℕ). turn_at c es line t (numbered_of m)) now ∙ ap (λ (s : Submission). turn_at c es line (effective es reading) s) same
