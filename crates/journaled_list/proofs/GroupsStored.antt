-- What storing a payload says of the list whose group it spells.
use Rattle.std.proofs.Common.{inl, inr, ⊎_elim, ℕ, List, [], ◌∷◌, ◌++◌, length, Result, Ok, Err, sym, subst}
use Rattle.site_core.specs.Told.{Told}
use Rattle.store_forward.specs.declared.faults.ForwardFault.{ForwardFault}
use Rattle.store_forward.specs.declared.faults.ForwardFault.TheVariants.{SiteFault, LineFault, JournalFull}
use Rattle.store_forward.specs.Storing.{HasStored, IsStoreMoment, StoreCalls, StoresTo, Stores}
use Rattle.journaled_list.specs.Rules.{Rules, Listed}
use Rattle.journaled_list.specs.Payloads.{with_group, IsGroup, StandFor}
use Rattle.journaled_list.specs.Ready.{IsReady}
use Rattle.journaled_list.specs.Storing.{IsStoringMoment, ReadyAfter, StoresAll}
use Rattle.journaled_list.proofs.ListsOfPayloads.{stand-push}

module _ {O E : Type 0} (rules : Rules O E) (list : Listed O E) (last : ℕ) (group : List E) (payload : List ℕ) (before : ℕ) (frames : List (List ℕ)) (old new : Told) (ready : IsReady rules (record { list = list; last = last; tail = before }) old) (is : IsGroup rules list.opening list.entries group payload) where
  abbrev payloads : List (List ℕ)
  payloads = ready.stands.payloads

  grown : StandFor rules (payloads ++ payload ∷ []) (with_group list group) (length group)
  grown = stand-push rules payloads list last group payload ready.stands.stand is

  moment : (image : List ℕ) (found : List (List ℕ)) → IsStoreMoment payloads payload frames old new image found → IsStoringMoment rules list last group frames old new image found
  moment image found m = ⊎_elim
      (λ was. inl (record { payloads = payloads; journal = was.0; stand = ready.stands.stand }, was.1))
      (λ more. inr (record { payloads = payloads ++ payload ∷ []; journal = more.0; stand = grown }, more.1, more.2))
      m

  stored : (tail : ℕ) → HasStored tail (payloads ++ payload ∷ []) new → IsReady rules (record { list = with_group list group; last = length group; tail = tail }) new
  stored tail has = record {
    stands = record { payloads = payloads ++ payload ∷ []; journal = has.journal; stand = grown };
    pending = has.pending;
    place = has.place;
  }

  after : (framed : List ℕ) (result : Result (Unit {0}) ForwardFault) (tail : ℕ) → StoreCalls before framed frames result old new → StoresTo result before tail payloads payload frames old new → ReadyAfter rules result list last group tail new
  after framed (Ok done) tail calls to = stored tail to.added
  after framed (Err LineFault) tail calls to = stored tail to.added
  after framed (Err SiteFault) tail calls to = tt
  after framed (Err (JournalFull t n)) tail calls to =
      subst (λ (x : Told). IsReady rules (record { list = list; last = last; tail = tail }) x) (sym calls)
      (subst (λ k. IsReady rules (record { list = list; last = last; tail = k }) old) (sym to.added) ready)

-- whatever list was ready
pub group_stored : {O E : Type 0} (rules : Rules O E) (result : Result (Unit {0}) ForwardFault) (before tail : ℕ) (framed payload : List ℕ) (frames : List (List ℕ)) (old new : Told)
    → StoreCalls before framed frames result old new → Stores result before tail payload frames old new → StoresAll rules result before tail payload frames old new
group_stored rules result before tail framed payload frames old new calls stores = λ list last group ready is.
    let to = stores ready.stands.payloads ready.pending ready.stands.journal ready.place in
    record {
      each = λ image found left. moment rules list last group payload before frames old new ready is image found (to.each image found left);
      ready = after rules list last group payload before frames old new ready is framed result tail calls to;
    }
