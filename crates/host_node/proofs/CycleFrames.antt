-- The ends of a cycle to the endpoints of some accounts, one account more.
use Rattle.std.proofs.Common.{◌≡◌, refl, sym, ap, ◌∙◌, ℕ, zero, suc, ◌+◌, ◌<◌, Bool, true, false, if◌then◌else◌, List, [], ◌∷◌, ◌++◌, length, take, get_or, map, append-nil, append_assoc, arith}
use Rattle.std.specs.Prelude.{bytes_eq}
use Rattle.std.proofs.lemmas.Bool.{or_left, or_right}
use Rattle.std.proofs.lemmas.List.{map-append, take_more}
use Rattle.host_ledger.specs.declared.config.Account.{Account}
use Rattle.host_ledger.specs.Accounts.{endpoints_of, has_endpoint}
use Rattle.host_ledger.proofs.EndpointLists.{one_more}
use Rattle.link_frames.specs.Frames.{Content as Frame, frame_bytes}
use Rattle.faim_model.proofs.Imads.{bytes_pass}

-- each account's endpoint serves an account
pub own_served : (accounts : List Account) (i : ℕ) (d : Account) → i < length accounts → has_endpoint accounts (get_or accounts i d).endpoint ≡ true
own_served [] i d lt = absurd (omega (arith, lt))
own_served (a ∷ rest) zero d lt = or_left (bytes_eq a.endpoint a.endpoint) (has_endpoint rest a.endpoint) (bytes_pass a.endpoint a.endpoint refl)
own_served (a ∷ rest) (suc i) d lt =
    or_right (bytes_eq a.endpoint (get_or rest i d).endpoint) (has_endpoint rest (get_or rest i d).endpoint) (own_served rest i d (omega (arith, lt)))

-- a frame to an endpoint, where it isn't there yet
sent_once : (frame : List ℕ → Frame) (old mid new : List (List ℕ)) (endpoints : List (List ℕ)) (e : List ℕ) (there : Bool)
    → mid ≡ old ++ map frame_bytes (map frame endpoints) → new ≡ mid ++ (if there then [] else frame_bytes (frame e) ∷ [])
    → new ≡ old ++ map frame_bytes (map frame (if there then endpoints else endpoints ++ e ∷ []))
sent_once frame old mid new endpoints e true before after = after ∙ append-nil mid ∙ before
sent_once frame old mid new endpoints e false before after =
    after ∙ ap (λ (l : List (List ℕ)). l ++ frame_bytes (frame e) ∷ []) before
    ∙ append_assoc old (map frame_bytes (map frame endpoints)) (frame_bytes (frame e) ∷ [])
    ∙ ap (λ (l : List (List ℕ)). old ++ l)
    (sym (map-append frame_bytes (map frame endpoints) (frame e ∷ [])) ∙ ap (map frame_bytes) (sym (map-append frame endpoints (e ∷ []))))

pub one_sent : (frame : List ℕ → Frame) (old mid new : List (List ℕ)) (accounts : List Account) (i : ℕ) (a : Account) → i < length accounts
    → a ≡ get_or accounts i a → mid ≡ old ++ map frame_bytes (map frame (endpoints_of (take i accounts)))
    → new ≡ mid ++ (if has_endpoint (take i accounts) a.endpoint then [] else frame_bytes (frame a.endpoint) ∷ [])
    → new ≡ old ++ map frame_bytes (map frame (endpoints_of (take (i + 1) accounts)))
one_sent frame old mid new accounts i a lt is before after =
    sent_once frame old mid new (endpoints_of (take i accounts)) a.endpoint (has_endpoint (take i accounts) a.endpoint) before after
    ∙ ap (λ (l : List (List ℕ)). old ++ map frame_bytes (map frame l))
    (sym (ap endpoints_of (take_more accounts i a lt ∙ ap (λ (x : Account). take i accounts ++ x ∷ []) (sym is)) ∙ one_more (take i accounts) a))
