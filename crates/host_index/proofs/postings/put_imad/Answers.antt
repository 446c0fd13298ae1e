use Rattle.std.proofs.Common.{◌≡◌, ◌++◌, ◌∷◌, [], map, None, ◌∙◌, ap, Result, Ok, Err}
use Rattle.std.specs.Result.{OnOk}
use Rattle.std.specs.Map.{lookup}
use Rattle.std.proofs.lemmas.List.{map-append}
use Rattle.indexmap.specs.IndexMap.{insert_entry}
use Rattle.indexmap.proofs.MapLemmas.{insert_entry-absent, absent_from_lookup}
use Rattle.faim_base.specs.declared.ids.Imad.{Imad}
use Rattle.host_index.specs.Index.{place_of}
use Rattle.host_index.specs.Tables.{posted_of}
use Rattle.host_index.proofs.Found.{same_key, place_found}
use Rattle.host_index.proofs.postings.put_imad.Goals as goal

at_ok : {A E : Type 0} (r : Result A E) (x : A) (P : Type 0) → r ≡ Ok x → OnOk r P → P
at_ok (Ok y) x P e p = p
at_ok (Err z) x P e p = absurd cc

pub returns : goal.returns
returns c =
    let es = c.args.posted.now.entries in
    let k = c.imad_key.result in
    let new : c.insert.new.self.entries ≡ insert_entry same_key es k c.args.place = at_ok c.insert.result c.unwrap.result _ c.unwrap.ensures c.insert.ensures.entries in
    let free : lookup (same_key k) es ≡ None = place_found k es ∙ ap (λ (i : Imad). place_of i (map posted_of es)) c.imad_key.ensures ∙ c.requires.absent in
    ap (map posted_of) (new ∙ insert_entry-absent same_key k c.args.place es (absent_from_lookup (same_key k) es free))
    ∙ map-append posted_of es ((k, c.args.place) ∷ [])
    ∙ ap (λ (i : Imad). map posted_of es ++ record { imad = i; place = c.args.place } ∷ []) c.imad_key.ensures
