use Rattle.std.proofs.Common.{◌≡◌, ℕ, ◌+◌, ◌-◌, List, [], ◌∷◌, ◌++◌, map, ◌∙◌, sym, ap, arith, append_assoc, Bor}
use Rattle.std.specs.Option.{option_copied}
use Rattle.std.proofs.lemmas.List.{map-append}
use Rattle.world_text.specs.Lines.{words_of}
use Rattle.world_text.proofs.WordCuts.{one_word, next_word, words_last}
use Rattle.world_text.proofs.lines.words.Goals as goal

abbrev texts : List (Bor (List ℕ)) → List (List ℕ)
texts ws = map (λ w. w.now) ws

pub returns-in-None : goal.returns-in-None
returns-in-None c =
    let left = c.args.most - c.loop.counter in
    let one = one_word left c.loop.rest.now c.split_word.result.0.now (omega arith) c.split_word.ensures.word (sym c.split_word.ensures.rest ∙ ap option_copied c.in-None.is) in
    ap texts c.in_ok-push.ensures.items ∙ map-append (λ (w : Bor (List ℕ)). w.now) c.loop.words.items (c.split_word.result.0 ∷ [])
    ∙ ap (λ (l : List (List ℕ)). texts c.loop.words.items ++ l) one ∙ c.loop.invariant

pub loop-preserved : goal.loop-preserved
loop-preserved c =
    let left = c.args.most - c.loop.counter in
    let less : c.args.most - (c.loop.counter + 1) ≡ left - 1 = omega arith in
    let next = next_word left c.loop.rest.now c.split_word.result.0.now c.in-Some.next.now (omega arith) c.split_word.ensures.word (sym c.split_word.ensures.rest ∙ ap option_copied c.in-Some.is) in
    ap (λ (ws : List (Bor (List ℕ))). texts ws ++ words_of (c.args.most - (c.loop.counter + 1)) c.in-Some.next.now) c.in_ok-push.ensures.items
    ∙ ap (λ (l : List (List ℕ)). l ++ words_of (c.args.most - (c.loop.counter + 1)) c.in-Some.next.now) (map-append (λ (w : Bor (List ℕ)). w.now) c.loop.words.items (c.split_word.result.0 ∷ []))
    ∙ append_assoc (texts c.loop.words.items) (c.split_word.result.0.now ∷ []) (words_of (c.args.most - (c.loop.counter + 1)) c.in-Some.next.now)
    ∙ ap (λ (n : ℕ). texts c.loop.words.items ++ (c.split_word.result.0.now ∷ words_of n c.in-Some.next.now)) less
    ∙ ap (λ (l : List (List ℕ)). texts c.loop.words.items ++ l) next ∙ c.loop.invariant

pub returns : goal.returns
returns c =
    ap texts c.in_ok-push-2.ensures.items ∙ map-append (λ (w : Bor (List ℕ)). w.now) c.loop.words.items (c.loop.rest ∷ [])
    ∙ ap (λ (l : List (List ℕ)). texts c.loop.words.items ++ l) (sym (words_last (c.args.most - c.loop.counter) c.loop.rest.now (omega arith))) ∙ c.loop.invariant
