use Rattle.std.proofs.Common.{◌≡◌, ℕ, List, length, take, drop, sym, ap, subst, ◌∙◌, arith}
use Rattle.faim_tags.specs.Layouts.{classes}
use Rattle.faim_tags.specs.Spelling.{IsTag}
use Rattle.faim_tags.specs.Steps.{Inside, tag_of}
use Rattle.faim_tags.proofs.Counts.{run_length-short}
use Rattle.faim_tags.proofs.CutLemmas.{completes_filled, cut_told, parts_are, parts_sound}
use Rattle.faim_tags.proofs.cutting.cut_elements.Goals as goal

pub after-rest-requires : goal.after-rest-requires
after-rest-requires c =
    let t = c.requires.there in
    let fixed : length c.sized_layout-layout.result.now.classes.now ≡ length (classes c.args.no) = ap length c.sized_layout-layout.ensures.classes in
    omega (arith, completes_filled t.0 c.args.no c.args.bytes.now t.1.0 t.1.1.0 t.1.1.1, (run_length-short (classes c.args.no) c.args.bytes.now).1)

pub before-requires : goal.before-requires
before-requires c =
    let t = c.requires.there in
    let fixed : length c.sized_layout-layout.result.now.classes.now ≡ length (classes c.args.no) = ap length c.sized_layout-layout.ensures.classes in
    omega (arith, completes_filled t.0 c.args.no c.args.bytes.now t.1.0 t.1.1.0 t.1.1.1, (run_length-short (classes c.args.no) c.args.bytes.now).1)

pub built-requires : goal.built-requires
built-requires c =
    let t = c.requires.there in
    let n = c.args.no in
    let bytes = c.args.bytes.now in
    let f = length c.sized_layout-layout.result.now.classes.now in
    let stars = c.in-Ok.cut.0 in
    let taken = c.in-Ok.cut.1 in
    let count = c.in-Ok.cut.2 in
    let fixed : f ≡ length (classes n) = ap length c.sized_layout-layout.ensures.classes in
    let cut = cut_told n bytes c.after-rest.result.now c.sized_layout-layout.result.now.stars.now f stars taken count c.sized_layout-layout.ensures.stars c.after-rest.ensures c.in-Ok.ensures in
    let part : c.before-part.result.now ≡ take count (drop taken (drop f bytes)) = c.before-part.ensures ∙ ap (take count) (c.after.ensures ∙ ap (drop taken) c.after-rest.ensures) in
    let P : List ℕ → Type 0 = λ x. IsTag (tag_of (Inside n x stars c.before-part.result.now)) in
    let Q : List ℕ → Type 0 = λ x. IsTag (tag_of (Inside n (take f bytes) stars x)) in
    subst P (sym c.before-2.ensures) (subst Q (sym part) (parts_sound t.0 n bytes t.1.0 t.1.1.0 f stars taken count c.requires.listed fixed cut t.1.1.1))

pub returns-in-Ok-built : goal.returns-in-Ok-built
returns-in-Ok-built c ns v k there =
    let n = c.args.no in
    let bytes = c.args.bytes.now in
    let f = length c.sized_layout-layout.result.now.classes.now in
    let stars = c.in-Ok.cut.0 in
    let taken = c.in-Ok.cut.1 in
    let count = c.in-Ok.cut.2 in
    let fixed : f ≡ length (classes n) = ap length c.sized_layout-layout.ensures.classes in
    let cut = cut_told n bytes c.after-rest.result.now c.sized_layout-layout.result.now.stars.now f stars taken count c.sized_layout-layout.ensures.stars c.after-rest.ensures c.in-Ok.ensures in
    let part : c.before-part.result.now ≡ take count (drop taken (drop f bytes)) = c.before-part.ensures ∙ ap (take count) (c.after.ensures ∙ ap (drop taken) c.after-rest.ensures) in
    let are = parts_are ns n bytes v k f stars taken count fixed cut there in
    let is : c.in-Ok-built.value ≡ tag_of (Inside n (take f bytes) stars (take count (drop taken (drop f bytes)))) =
    c.in-Ok-built.ensures ∙ ap (λ (x : List ℕ). tag_of (Inside n x stars c.before-part.result.now)) c.before-2.ensures ∙ ap (λ (x : List ℕ). tag_of (Inside n (take f bytes) stars x)) part in
    (is ∙ are.0, are.1)
