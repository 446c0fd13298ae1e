-- A draft that gets the next number fits a frame.
use Rattle.std.proofs.Common.{◌≡◌, ◌≤◌, ℕ, List, length, Some, Ok, sym, subst, arith}
use Rattle.faim_base.specs.declared.ids.Imad.{Imad}
use Rattle.faim_base.specs.Ids.{imad_text}
use Rattle.faim_base.specs.Ranges.{IsEndpoint}
use Rattle.faim_message.specs.declared.form.Form.TheVariants.{Draft}
use Rattle.faim_message.specs.Decoded.{decoded}
use Rattle.faim_message.specs.Numbering.{numbered}
use Rattle.faim_message.specs.Spelling.{Content, marked_with}
use Rattle.link_frames.specs.Frames.{greatest_payload}
use Rattle.bank_books.specs.declared.entries.BankEntry.{BankEntry}
use Rattle.bank_books.specs.declared.entries.BankOpening.{BankOpening}
use Rattle.bank_books.specs.Numbering.{next_imad}
use Rattle.bank_books.specs.Openings.{IsBankOpening}
use Rattle.bank_books.proofs.Counted.{is_next}
use Rattle.bank_turns.specs.Drafting.{draft_text}
use Rattle.bank_turns.proofs.DraftTexts.{spelling_fits}
use Rattle.bank_turns.proofs.Sends.{numbered_spells}

pub numbered_fits : (o : BankOpening) (es : List BankEntry) (payload : List ℕ) (m : Content) (imad : Imad) → IsBankOpening o → decoded Draft payload ≡ Some m → next_imad o es ≡ Ok imad
    → length (draft_text m imad) ≤ greatest_payload
numbered_fits o es payload m imad sound read next =
    let own : IsEndpoint imad.source = subst IsEndpoint (sym (is_next o es imad next).source) sound.endpoint in
    omega (arith, (spelling_fits (marked_with 32 (numbered m (imad_text imad))) (draft_text m imad) (numbered_spells payload m imad read own)).1)
