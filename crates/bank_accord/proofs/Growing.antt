-- What a host adds later changes nothing of a bank's accord.
use Rattle.std.proofs.Common.{◌≡◌, sym, ap, ◌∙◌, ℕ, List, [], ◌∷◌, ◌++◌, append-nil, append_assoc, map}
use Rattle.std.proofs.lemmas.List.{map-append}
use Rattle.std.proofs.lemmas.List.Elements.{Contains-append_right}
use Rattle.faim_base.specs.declared.ids.Imad.{Imad}
use Rattle.faim_base.specs.declared.judgement.Verdict.{Verdict}
use Rattle.link_frames.specs.declared.frame.FrameKind.{FrameKind}
use Rattle.link_frames.specs.Frames.{Content as Frame}
use Rattle.host_ledger.specs.declared.config.Config.{Config}
use Rattle.host_ledger.specs.declared.entries.Entry.{Entry}
use Rattle.host_ledger.specs.declared.entries.Entry.TheVariants.{Posted}
use Rattle.bank_books.specs.declared.entries.BankEntry.{BankEntry}
use Rattle.bank_books.specs.declared.entries.BankOpening.{BankOpening}
use Rattle.bank_books.specs.Inbox.{InboxItem, inbox}
use Rattle.faim_model.specs.Outputs.{Item, item_of, outputs}
use Rattle.faim_model.proofs.Covering.{covered_by_longer}
use Rattle.bank_accord.specs.Accord.{Accords, HasVerdict, InboxStands, IsTrusted, TrustedAs, output_text}

-- the outputs of a longer list begin with those of the list
outputs_grow : (c : Config) (es newer : List Entry) (e : List ℕ) → (more : List Item) × (outputs c (newer ++ es) e ≡ outputs c es e ++ more)
outputs_grow c es [] e = ([], sym (append-nil (outputs c es e)))
outputs_grow c es (x ∷ newer) e =
    let before = outputs_grow c es newer e in
    let own : List Item = item_of c (newer ++ es) (outputs c (newer ++ es) e) x e in
    (before.0 ++ own, ap (λ (l : List Item). l ++ own) before.1 ∙ append_assoc (outputs c es e) before.0 own)

verdict_outlasts : (es newer : List Entry) (imad : Imad) (v : Verdict) → HasVerdict es imad v → HasVerdict (newer ++ es) imad v
verdict_outlasts es newer imad v has = record {
  head = has.head;
  body = has.body;
  resent = has.resent;
  moment = has.moment;
  there = Contains-append_right newer es (Posted has.head has.body has.resent has.moment v) has.there;
  named = has.named;
}

inbox_outlasts : (c : Config) (es newer : List Entry) (e : List ℕ) (kept : List BankEntry) → InboxStands c es e kept → InboxStands c (newer ++ es) e kept
inbox_outlasts c es newer e kept stands =
    let grown = outputs_grow c es newer e in
    let texts : List (List ℕ) = map (λ (i : InboxItem). i.text) (inbox kept) in
    let more : List (List ℕ) = map (output_text c e) grown.0 in (
      stands.0 ++ more,
      ap (map (output_text c e)) grown.1 ∙ map-append (output_text c e) (outputs c es e) grown.0 ∙ ap (λ (l : List (List ℕ)). l ++ more) stands.1
          ∙ append_assoc texts stands.0 more,
    )

pub accord_outlasts : (c : Config) (es newer : List Entry) (o : BankOpening) (kept : List BankEntry) → Accords c es o kept → Accords c (newer ++ es) o kept
accord_outlasts c es newer o kept accord = record {
  verdicts = λ imad v there. verdict_outlasts es newer imad v (accord.verdicts imad v there);
  inbox = inbox_outlasts c es newer o.endpoint kept accord.inbox;
}

pub trust_outlasts : (c : Config) (es newer : List Entry) (f : Frame) → IsTrusted c es f → IsTrusted c (newer ++ es) f
trust_outlasts c es newer f = by_kind f.kind
  where
    by_kind : (kind : FrameKind) → TrustedAs c es kind f → TrustedAs c (newer ++ es) kind f
    by_kind FrameKind.Ack trusted = covered_by_longer c es newer f trusted
    by_kind FrameKind.Output trusted = covered_by_longer c es newer f trusted
    by_kind kind trusted = trusted
