-- The frames of an entry, told one by one.
use Rattle.std.proofs.Common.{◌≡◌, refl, sym, ap, subst, ◌∙◌, ℕ, ◌+◌, Bool, true, false, cond, List, [], ◌∷◌, ◌++◌, length, map, Option, Some}
use Rattle.std.specs.Prelude.{bytes_eq, is_none}
use Rattle.std.specs.List.{Contains, flat_map}
use Rattle.std.specs.Option.{option_map_or, option_to_list}
use Rattle.std.proofs.lemmas.List.Elements.{Contains-append_left}
use Rattle.std.proofs.lemmas.Bool.{or_left, or_right}
use Rattle.faim_base.specs.declared.judgement.Head.{Head}
use Rattle.faim_base.specs.declared.judgement.Reject.{Reject}
use Rattle.faim_base.specs.declared.judgement.Verdict.TheVariants.{Taken, Refused}
use Rattle.host_ledger.specs.declared.config.Account.{Account}
use Rattle.host_ledger.specs.declared.config.Config.{Config}
use Rattle.host_ledger.specs.declared.entries.Entry.{Entry}
use Rattle.host_ledger.specs.declared.entries.Entry.TheVariants.{Posted, Roll}
use Rattle.host_ledger.specs.Accounts.{account_in, endpoints_of, has_endpoint}
use Rattle.host_ledger.specs.Sums.{cycle}
use Rattle.link_frames.specs.declared.frame.FrameKind.{FrameKind}
use Rattle.link_frames.specs.Frames.{Content as Frame}
use Rattle.faim_model.specs.Outputs.{Item, item_of, one_if, sent_in_cycle}
use Rattle.faim_model.specs.Lawful.{Follows}
use Rattle.faim_model.specs.Acks.{verdict_ack}
use Rattle.faim_model.specs.Frames.{ack_of, framed, output}
use Rattle.faim_model.specs.Sending.{frames_of, given_to}
use Rattle.faim_model.proofs.Imads.{bytes_equal, bytes_pass}
use Rattle.faim_model.proofs.Judgements.{posted_taken}
use Rattle.faim_model.proofs.Members.{first_in, none_in}
use Rattle.faim_model.proofs.Served.{once, one_each, served}

-- an account that is found is served at its endpoint
served_step : (a : Account) (rest : List Account) (aba : List ℕ) (same : Bool) → is_none (cond same (Some a) (account_in rest aba)) ≡ false
    → (is_none (account_in rest aba) ≡ false → has_endpoint rest (option_map_or (λ (x : Account). x.endpoint) (account_in rest aba) []) ≡ true)
    → has_endpoint (a ∷ rest) (option_map_or (λ (x : Account). x.endpoint) (cond same (Some a) (account_in rest aba)) []) ≡ true
served_step a rest aba true known later = or_left (bytes_eq a.endpoint a.endpoint) (has_endpoint rest a.endpoint) (bytes_pass a.endpoint a.endpoint refl)
served_step a rest aba false known later =
    or_right (bytes_eq a.endpoint (option_map_or (λ (x : Account). x.endpoint) (account_in rest aba) []))
    (has_endpoint rest (option_map_or (λ (x : Account). x.endpoint) (account_in rest aba) [])) (later known)

known_served : (accounts : List Account) (aba : List ℕ) → is_none (account_in accounts aba) ≡ false
    → has_endpoint accounts (option_map_or (λ (x : Account). x.endpoint) (account_in accounts aba) []) ≡ true
known_served [] aba known = absurd cc
known_served (a ∷ rest) aba known = served_step a rest aba (bytes_eq a.aba aba) known (known_served rest aba)

-- what is accepted goes to an endpoint of the configuration
pub dest_served : (c : Config) (older : List Entry) (h : Head) (body : List ℕ) (resent : Bool) (moment : ℕ) (dest : List ℕ) (seq : ℕ)
    → Follows c older (Posted h body resent moment (Taken dest seq)) → has_endpoint c.accounts dest ≡ true
dest_served c older h body resent moment dest seq follows =
    let taken = posted_taken c older h body resent moment dest seq follows in
    subst (λ (e : List ℕ). has_endpoint c.accounts e ≡ true) taken.dest_is (known_served c.accounts h.receiver taken.receiver_known)

-- no items, no frames
none_given : {A : Type 0} (f : List ℕ → List A) (endpoints : List (List ℕ)) → ((e : List ℕ) → f e ≡ []) → flat_map f endpoints ≡ []
none_given f [] none = refl
none_given f (e ∷ endpoints) none = (λ k. none e k ++ none_given f endpoints none k)

module _ (c : Config) (older : List Entry) (mark : ℕ) where
  -- an accepted message: its acknowledgement and its output
  pub taken_frames : (h : Head) (body : List ℕ) (resent : Bool) (moment : ℕ) (dest : List ℕ) (seq : ℕ) → Follows c older (Posted h body resent moment (Taken dest seq))
      → frames_of c older (Posted h body resent moment (Taken dest seq)) mark
      ≡ framed FrameKind.Ack h.imad.source (verdict_ack c.env h moment (Taken dest seq) mark)
      ∷ output c dest (record { at = record { date = h.imad.date; seq = seq }; place = length older; entry = Posted h body resent moment (Taken dest seq) }) mark ∷ []
  taken_frames h body resent moment dest seq follows =
      let x : Entry = Posted h body resent moment (Taken dest seq) in
      let item : Item = record { at = record { date = h.imad.date; seq = seq }; place = length older; entry = x } in
      let has = dest_served c older h body resent moment dest seq follows in
      let given : (e : List ℕ) → Bool → List Frame = λ e b. map (λ (i : Item). output c e i mark) (one_if b item) in
      ap (λ (l : List Frame). framed FrameKind.Ack h.imad.source (verdict_ack c.env h moment (Taken dest seq) mark) ∷ l)
      (once (given_to c older x mark) dest (λ e apart. ap (given e) apart) c.accounts
      ∙ ap (λ (b : Bool). cond b (given_to c older x mark dest) []) has
      ∙ ap (given dest) (bytes_pass dest dest refl))

  -- a refused one: its acknowledgement
  pub refused_frames : (h : Head) (body : List ℕ) (resent : Bool) (moment : ℕ) (why : Reject)
      → frames_of c older (Posted h body resent moment (Refused why)) mark ≡ framed FrameKind.Ack h.imad.source (verdict_ack c.env h moment (Refused why) mark) ∷ []
  refused_frames h body resent moment why =
      ap (λ (l : List Frame). framed FrameKind.Ack h.imad.source (verdict_ack c.env h moment (Refused why) mark) ∷ l)
      (none_given (given_to c older (Posted h body resent moment (Refused why)) mark) (endpoints_of c.accounts) (λ e. refl))

  -- a Roll: the end of the cycle to each endpoint
  pub roll_frames : (moment date : ℕ) → frames_of c older (Roll moment date) mark
      ≡ map (λ e. output c e (record { at = record { date = cycle c older; seq = sent_in_cycle c older e + 1 }; place = length older; entry = Roll moment date }) mark)
      (endpoints_of c.accounts)
  roll_frames moment date =
      let x : Entry = Roll moment date in
      let item : List ℕ → Item = λ e. record { at = record { date = cycle c older; seq = sent_in_cycle c older e + 1 }; place = length older; entry = x } in
      one_each (given_to c older x mark) (λ e. output c e (item e) mark) (endpoints_of c.accounts)
      (λ e there. ap (λ (b : Bool). map (λ (i : Item). output c e i mark) (one_if b (item e))) (served c.accounts e there))

  -- what an entry gives goes to an endpoint of the configuration
  pub item_served : (x : Entry) (before : List Item) (e : List ℕ) (i : Item) → Follows c older x → Contains (item_of c older before x e) i → has_endpoint c.accounts e ≡ true
  item_served (Posted h body resent moment (Taken dest seq)) before e i follows there =
      by_dest (bytes_eq dest e) refl _ there
    where
      by_dest : (b : Bool) → bytes_eq dest e ≡ b → (own : Item) → Contains (one_if b own) i → has_endpoint c.accounts e ≡ true
      by_dest true same own given =
          subst (λ (l : List ℕ). has_endpoint c.accounts l ≡ true) (bytes_equal dest e same) (dest_served c older h body resent moment dest seq follows)
      by_dest false apart own given = absurd (none_in i given)
  item_served (Posted h body resent moment (Refused why)) before e i follows there = absurd (none_in i there)
  item_served (Roll moment date) before e i follows there = by_served (has_endpoint c.accounts e) refl _ there
    where
      by_served : (b : Bool) → has_endpoint c.accounts e ≡ b → (own : Item) → Contains (one_if b own) i → has_endpoint c.accounts e ≡ true
      by_served true same own given = same
      by_served false apart own given = absurd (none_in i given)

  -- its acknowledgement is among its frames
  pub ack_sent : (x : Entry) (g : Frame) → ack_of c mark x ≡ Some g → Contains (frames_of c older x mark) g
  ack_sent x g acked =
      Contains-append_left (option_to_list (ack_of c mark x)) (flat_map (given_to c older x mark) (endpoints_of c.accounts)) g
      (subst (λ (o : Option Frame). Contains (option_to_list o) g) (sym acked) (first_in g []))
