use Rattle.bank_turns.proofs.DraftTexts.{draft_keeps}
use Rattle.bank_turns.proofs.kept_laws.drafts_keep_their_texts.Goals as goal

pub returns : goal.returns
returns c = draft_keeps
