-- What a verdict says of its message, and what a posted entry says of the entries before it.
use Rattle.std.proofs.Common.{◌≡◌, refl, sym, ◌∙◌, ap, subst, ℕ, ◌+◌, ◌==◌, ◌&&◌, nat_le, Bool, true, false, not, List, Option, None, is_none, ⊎_elim}
use Rattle.std.specs.Str.{bytes_eq}
use Rattle.faim_base.specs.declared.judgement.Head.{Head}
use Rattle.faim_base.specs.declared.judgement.Reject.{Reject}
use Rattle.faim_base.specs.declared.judgement.Verdict.{Verdict}
use Rattle.faim_base.specs.declared.judgement.Verdict.TheVariants.{Taken}
use Rattle.faim_base.specs.Text.{is_text_byte}
use Rattle.host_ledger.specs.declared.config.Config.{Config}
use Rattle.host_ledger.specs.declared.entries.Entry.{Entry}
use Rattle.faim_model.specs.declared.decisions.Decision.{Decision}
use Rattle.faim_model.specs.declared.decisions.Decision.TheVariants.{New}
use Rattle.host_ledger.specs.Accounts.{account_of, endpoint_of, is_served_at}
use Rattle.host_ledger.specs.Sums.{cycle, is_below_floor}
use Rattle.faim_model.specs.Outputs.{sent_in_cycle}
use Rattle.faim_model.specs.Verdicts.{Now, answer_of, has_body, has_imad, is_customer, is_past, judged, judged_new, place_of, verdict_on}
use Rattle.faim_model.specs.Lawful.{IsMark, PostFollows}
use Rattle.faim_model.proofs.Submitted.{marked_again}
use Rattle.faim_model.proofs.Cases.{IsNew, IsTaken, new_case, taken_case}

pub decision_is : (d : Decision) (v : Verdict) → answer_of d ≡ Now v → d ≡ New v
decision_is (New w) v now = cc
decision_is d v now = absurd cc

-- the marks that a first submission may have had are text bytes
mark_is_text : (resent : Bool) (k : ℕ) → IsMark resent k → is_text_byte k ≡ true
mark_is_text true k mark = subst (λ (n : ℕ). is_text_byte n ≡ true) (sym mark) refl
mark_is_text false k mark =
    ⊎_elim (λ (blank : k ≡ 32). subst (λ (n : ℕ). is_text_byte n ≡ true) (sym blank) refl)
    (λ (other : k ≡ 88). subst (λ (n : ℕ). is_text_byte n ≡ true) (sym other) refl) mark

-- a posted entry was judged by its head and its body, with the edit that its first submission failed first, or none
pub record WasJudged (c : Config) (older : List Entry) (h : Head) (body : List ℕ) (moment : ℕ) (v : Verdict) : Type 0 where
  pub failed : Option Reject
  pub decided : judged c older h.imad.source moment h body failed ≡ New v

pub posted_judged : (c : Config) (older : List Entry) (h : Head) (body : List ℕ) (resent : Bool) (moment : ℕ) (v : Verdict)
    → PostFollows c older h body resent moment v → WasJudged c older h body moment v
posted_judged c older h body resent moment v f =
    let again = marked_again c.env body h body 32 f.failed f.mark f.spelled (mark_is_text resent f.mark f.marked) in
    record {
      failed = again.failed_now;
      decided = decision_is (judged c older h.imad.source moment h body again.failed_now) v
          (sym (ap (verdict_on c older h.imad.source moment) again.is) ∙ f.judged);
    }

-- what a new verdict says of its message
pub judged_is_new : (c : Config) (es : List Entry) (line : List ℕ) (t : ℕ) (h : Head) (body : List ℕ) (failed : Option Reject) (v : Verdict)
    → judged c es line t h body failed ≡ New v
    → IsNew (bytes_eq h.imad.source line) (place_of (has_body h.imad body) es) (place_of (has_imad h.imad) es) (judged_new c es line t h failed) v
judged_is_new c es line t h body failed v decided =
    new_case (bytes_eq h.imad.source line) (place_of (has_body h.imad body) es) (place_of (has_imad h.imad) es) (judged_new c es line t h failed) v decided

-- what an acceptance says of its message
pub new_is_taken : (c : Config) (es : List Entry) (line : List ℕ) (t : ℕ) (h : Head) (failed : Option Reject) (dest : List ℕ) (seq : ℕ)
    → judged_new c es line t h failed ≡ New (Taken dest seq)
    → IsTaken (h.imad.date == cycle c es) (is_served_at c h.sender line) (is_none (account_of c h.receiver))
    (is_customer h && is_past c es c.customer t) (not (is_customer h) && is_past c es c.bank t) (is_below_floor c es h)
    (nat_le 999_998 (sent_in_cycle c es (endpoint_of c h.receiver))) (endpoint_of c h.receiver) (sent_in_cycle c es (endpoint_of c h.receiver) + 1) dest seq
new_is_taken c es line t h failed dest seq decided =
    taken_case (h.imad.date == cycle c es) failed (is_served_at c h.sender line) (is_none (account_of c h.receiver))
    (is_customer h && is_past c es c.customer t) (not (is_customer h) && is_past c es c.bank t) (is_below_floor c es h)
    (nat_le 999_998 (sent_in_cycle c es (endpoint_of c h.receiver))) (endpoint_of c h.receiver) (sent_in_cycle c es (endpoint_of c h.receiver) + 1) dest seq decided

-- a posted entry's identifier is new
pub posted_fresh : (c : Config) (older : List Entry) (h : Head) (body : List ℕ) (resent : Bool) (moment : ℕ) (v : Verdict)
    → PostFollows c older h body resent moment v → place_of (has_imad h.imad) older ≡ None
posted_fresh c older h body resent moment v f =
    let j = posted_judged c older h body resent moment v f in
    (judged_is_new c older h.imad.source moment h body j.failed v j.decided).fresh

-- what a posted entry that was accepted says of its message
pub posted_taken : (c : Config) (older : List Entry) (h : Head) (body : List ℕ) (resent : Bool) (moment : ℕ) (dest : List ℕ) (seq : ℕ)
    → PostFollows c older h body resent moment (Taken dest seq)
    → IsTaken (h.imad.date == cycle c older) (is_served_at c h.sender h.imad.source) (is_none (account_of c h.receiver))
    (is_customer h && is_past c older c.customer moment) (not (is_customer h) && is_past c older c.bank moment) (is_below_floor c older h)
    (nat_le 999_998 (sent_in_cycle c older (endpoint_of c h.receiver))) (endpoint_of c h.receiver) (sent_in_cycle c older (endpoint_of c h.receiver) + 1) dest seq
posted_taken c older h body resent moment dest seq f =
    let j = posted_judged c older h body resent moment (Taken dest seq) f in
    new_is_taken c older h.imad.source moment h j.failed dest seq
    (judged_is_new c older h.imad.source moment h body j.failed (Taken dest seq) j.decided).rest_is
