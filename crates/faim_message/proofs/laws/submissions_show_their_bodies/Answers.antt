use Rattle.faim_message.proofs.Submissions.{body_shown, body_reads_blank, text_back, body_some, body_short}
use Rattle.faim_message.proofs.laws.submissions_show_their_bodies.Goals as goal

pub returns-clause-text : goal.returns-clause-text
returns-clause-text c text m read = body_shown text m read

pub returns-clause-reads : goal.returns-clause-reads
returns-clause-reads c text m read = body_reads_blank text m read

pub returns-clause-back : goal.returns-clause-back
returns-clause-back c text m read = text_back text m read

pub returns-clause-some : goal.returns-clause-some
returns-clause-some c text m read = body_some text m read

pub returns-clause-short : goal.returns-clause-short
returns-clause-short c text m read = body_short text m read
