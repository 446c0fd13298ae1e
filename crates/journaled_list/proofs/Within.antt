-- Entries read from the front of a payload.
use Rattle.std.proofs.Common.{◌≡◌, ℕ, ◌+◌, ◌≤◌, List, [], ◌∷◌, ◌++◌, length, refl, sym, ◌∙◌, ap, subst, arith, append-nil, length-append}
use Rattle.journaled_list.specs.Rules.{Rules, Listed, AreReadOnce}
use Rattle.journaled_list.specs.Payloads.{joined, onto, with_group, Continues, IsGroup}
use Rattle.journaled_list.specs.Reading.{IsWithin, StartsWith, with_entry}
use Rattle.journaled_list.proofs.Groups.{joined-push, onto-push, continues-push, long_bytes, left_of}

pub within_none : {O E : Type 0} (rules : Rules O E) (s : Listed O E) (payload : List ℕ) → IsWithin rules s s payload payload 0
within_none rules s payload = record { done = []; is = refl; lawful = tt; now_is = refl; many = refl; few = omega arith }

module _ {O E : Type 0} (rules : Rules O E) (once : AreReadOnce rules) (old now : Listed O E) (payload rest : List ℕ) (count : ℕ) (w : IsWithin rules old now payload rest count) where
  -- the entry at the front of what is left
  pub within_more : (x : E) (behind : List ℕ) (next : Listed O E) → StartsWith rules now rest x behind → next ≡ with_entry now x → IsWithin rules old next payload behind (count + 1)
  within_more x behind next starts is =
      let entries : now.entries ≡ onto w.done old.entries = ap (λ (s : Listed O E). s.entries) w.now_is in
      let opening : now.opening ≡ old.opening = ap (λ (s : Listed O E). s.opening) w.now_is in
      let follows : rules.MayFollow old.opening (onto w.done old.entries) x =
      subst (λ (l : List E). rules.MayFollow old.opening l x) entries (subst (λ (o : O). rules.MayFollow o now.entries x) opening starts.follows) in
      let longer = long_bytes rules once old.opening (onto w.done old.entries) x behind follows in
      let long : length rest ≡ length (rules.entry_bytes x ++ behind) = ap length starts.is in
      let few = w.few in
      record {
        done = w.done ++ x ∷ [];
        is = w.is ∙ ap (λ (l : List ℕ). joined rules w.done ++ l) starts.is ∙ sym (joined-push rules w.done x behind);
        lawful = continues-push rules old.opening old.entries w.done x w.lawful follows;
        now_is = is ∙ ap (λ (s : Listed O E). with_entry s x) w.now_is ∙ ap (λ (l : List E). record { opening = old.opening; entries = l }) (sym (onto-push w.done x old.entries));
        many = omega (arith, w.many, length-append w.done (x ∷ []));
        few = omega arith;
      }

  -- where no entry that may come stands at the front of what is left, the payload is no group
  pub within_bad : 1 ≤ length rest → ((x : E) (behind : List ℕ) → StartsWith rules now rest x behind → ⊥) → (group : List E) → IsGroup rules old.opening old.entries group payload → ⊥
  within_bad some none group is =
      let left = left_of rules once old.opening old.entries w.done group rest w.lawful is.lawful (sym w.is ∙ is.spells) in
      front left.more left.is left.lawful
    where
      front : (more : List E) → rest ≡ joined rules more → Continues rules old.opening (onto w.done old.entries) more → ⊥
      front [] same lawful = omega (arith, some, ap length same)
      front (x ∷ xs) same lawful =
          let follows : rules.MayFollow now.opening now.entries x = subst (λ (s : Listed O E). rules.MayFollow s.opening s.entries x) (sym w.now_is) lawful.0 in
          none x (joined rules xs) (record { follows = follows; is = same })

  -- where nothing is left, the payload is the group that was read
  pub within_all : length rest ≡ 0 → 1 ≤ count → (group : List E) × IsGroup rules old.opening old.entries group payload × (count ≡ length group) × (now ≡ with_group old group)
  within_all none some = (w.done, record { some = omega (arith, w.many, some); spells = w.is ∙ whole rest none; lawful = w.lawful }, w.many, w.now_is)
    where
      whole : (l : List ℕ) → length l ≡ 0 → joined rules w.done ++ l ≡ joined rules w.done
      whole [] e = append-nil (joined rules w.done)
      whole (b ∷ bs) e = absurd (omega (arith, e))

  -- where nothing was read and nothing is left, the payload is no group
  pub within_empty : length rest ≡ 0 → count ≡ 0 → (group : List E) → IsGroup rules old.opening old.entries group payload → ⊥
  within_empty none zero group is =
      empty group is.some is.lawful (omega (arith, ap length is.spells, ap length w.is, length-append (joined rules w.done) rest, none, short w.done (omega (arith, w.many, zero))))
    where
      short : (done : List E) → length done ≡ 0 → length (joined rules done) ≡ 0
      short [] e = refl
      short (x ∷ xs) e = absurd (omega (arith, e))

      empty : (g : List E) → 1 ≤ length g → Continues rules old.opening old.entries g → length (joined rules g) ≡ 0 → ⊥
      empty [] some lawful e = omega (arith, some)
      empty (x ∷ xs) some lawful e = omega (arith, e, long_bytes rules once old.opening old.entries x (joined rules xs) lawful.0)
