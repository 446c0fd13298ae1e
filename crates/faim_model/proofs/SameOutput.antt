-- The sender and the receiver of an accepted message are told of the same output.
use Rattle.std.proofs.Common.{◌≡◌, sym, ap, subst, ◌∙◌, ℕ, Bool, List}
use Rattle.std.specs.List.{Contains}
use Rattle.faim_base.specs.declared.ids.OutPos.{OutPos}
use Rattle.faim_base.specs.declared.judgement.Head.{Head}
use Rattle.faim_base.specs.declared.judgement.Verdict.TheVariants.{Taken}
use Rattle.faim_base.specs.Ids.{omad_text, read_omad, stamp_of}
use Rattle.host_ledger.specs.declared.config.Config.{Config}
use Rattle.host_ledger.specs.declared.entries.Entry.{Entry}
use Rattle.host_ledger.specs.declared.entries.Entry.TheVariants.{Posted}
use Rattle.faim_model.specs.Outputs.{Item, outputs}
use Rattle.faim_model.specs.Lawful.{moment_of}
use Rattle.faim_model.specs.Acks.{verdict_ack}
use Rattle.faim_model.specs.Deliveries.{output_message}
use Rattle.faim_model.specs.Readings.{omad_in}
use Rattle.faim_model.proofs.Ranged.{Gives, each_gives}

pub output_named : (c : Config) (es : List Entry) (e : List ℕ) (i : Item)
    (h : Head) (body : List ℕ) (resent : Bool) (moment : ℕ) (dest : List ℕ) (seq mark other : ℕ)
    → Contains (outputs c es e) i → i.entry ≡ Posted h body resent moment (Taken dest seq)
    → omad_in (verdict_ack c.env h moment (Taken dest seq) mark) ≡ omad_in (output_message c.env e i other)
output_named c es e i h body resent moment dest seq mark other there entry =
    let gives = subst (λ (x : Entry). Gives c e i.at x) entry (each_gives c es e i there) in
    let at : moment ≡ moment_of i.entry = sym (ap moment_of entry) in
    ap (λ (d : List ℕ). read_omad (omad_text (record { date = h.imad.date; dest = d; seq = seq; stamp = stamp_of moment }))) gives.0
    ∙ ap (λ (p : OutPos). read_omad (omad_text (record { date = p.date; dest = e; seq = p.seq; stamp = stamp_of moment }))) gives.1
    ∙ ap (λ (t : ℕ). read_omad (omad_text (record { date = i.at.date; dest = e; seq = i.at.seq; stamp = stamp_of t }))) at
