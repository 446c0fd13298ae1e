-- The payload of an item, from what its entry holds.
use Rattle.std.proofs.Common.{◌≡◌, ℕ, Bool, cond, List, [], ◌∷◌, ◌++◌, sym, ap, ◌∙◌}
use Rattle.std.specs.List.{flat_map}
use Rattle.faim_base.specs.declared.ids.OutPos.{OutPos}
use Rattle.faim_base.specs.declared.judgement.Head.{Head}
use Rattle.faim_base.specs.declared.judgement.Verdict.{Verdict}
use Rattle.faim_tags.specs.Spelling.{Tag, spelling}
use Rattle.faim_message.specs.Forms.{between, ending}
use Rattle.faim_message.specs.Spelling.{Content, joined, message_spelling}
use Rattle.host_ledger.specs.declared.entries.Entry.{Entry}
use Rattle.host_ledger.specs.declared.entries.Entry.TheVariants.{Posted, Roll}
use Rattle.host_ledger.specs.Sums.{moves_money}
use Rattle.faim_model.specs.Deliveries.{delivered_breaks, delivered_tags, host_tags, next_tag, output_message, output_status}
use Rattle.faim_model.specs.Lawful.{moment_of}
use Rattle.faim_model.specs.Outputs.{Item}
use Rattle.faim_model.specs.ServiceTags.{moment_tag, output_tag, status_tag}
use Rattle.faim_model.specs.Submissions.{text_with}

abbrev three_tags : ℕ → List ℕ → ℕ → OutPos → ℕ → ℕ → List Tag
three_tags env e mark at status moment = status_tag env mark status ∷ moment_tag moment ∷ output_tag at e moment ∷ []

module _ (env : ℕ) (e : List ℕ) (i : Item) (mark : ℕ) (at : OutPos) where
  host_tags_are : (x : Entry) → i.at ≡ at → i.entry ≡ x → host_tags env e i mark ≡ three_tags env e mark at (output_status x) (moment_of x)
  host_tags_are x is_at entry =
      ap (λ (p : OutPos). three_tags env e mark p (output_status i.entry) (moment_of i.entry)) is_at
      ∙ ap (λ (y : Entry). three_tags env e mark at (output_status y) (moment_of y)) entry

  -- of a message: the host's tags with its breaks, and its text
  pub message_payload : (h : Head) (body : List ℕ) (resent : Bool) (moment : ℕ) (v : Verdict) (m : Content) (status : ℕ) (text : List ℕ)
      → i.at ≡ at → i.entry ≡ Posted h body resent moment v → status ≡ cond (moves_money h) 78 83 → text ≡ body
      → message_spelling (output_message env e i mark)
      ≡ flat_map (λ t. spelling t ++ between m.breaks) (host_tags env e i mark) ++ text_with (cond resent 80 32) body
      → flat_map (λ t. spelling t ++ between m.breaks) (three_tags env e mark at status moment) ++ text_with (cond resent 80 32) text
      ≡ message_spelling (output_message env e i mark)
  message_payload h body resent moment v m status text is_at entry is_status is_text handed =
      let broken : List Tag → List ℕ = λ tags. flat_map (λ t. spelling t ++ between m.breaks) tags in
      ap (λ (s : ℕ). broken (three_tags env e mark at s moment) ++ text_with (cond resent 80 32) text) is_status
      ∙ ap (λ (l : List ℕ). broken (three_tags env e mark at (cond (moves_money h) 78 83) moment) ++ text_with (cond resent 80 32) l) is_text
      ∙ ap (λ (tags : List Tag). broken tags ++ text_with (cond resent 80 32) body) (sym (host_tags_are (Posted h body resent moment v) is_at entry))
      ∙ sym handed

  abbrev spelled_with : OutPos → Entry → List ℕ
  spelled_with p x =
      joined (between (delivered_breaks x)) (ending (delivered_breaks x)) (three_tags env e mark p (output_status x) (moment_of x) ++ delivered_tags x)

  -- of a Roll: the host's tags and the new date
  pub end_payload : (moment date : ℕ) → i.at ≡ at → i.entry ≡ Roll moment date
      → joined [] [] (three_tags env e mark at 69 moment ++ next_tag date ∷ []) ≡ message_spelling (output_message env e i mark)
  end_payload moment date is_at entry =
      sym (ap (λ (p : OutPos). spelled_with p i.entry) is_at ∙ ap (λ (x : Entry). spelled_with at x) entry)
