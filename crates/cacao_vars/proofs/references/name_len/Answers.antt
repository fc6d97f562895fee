-- The run of name characters is the name, if the text begins with a reference.
use Rattle.std.proofs.Common.{◌≡◌, ◌++◌, ◌∙◌, sym, subst, refl, arith, drop}
use Rattle.std.specs.Prelude.{codes}
use Rattle.std.proofs.lemmas.Bool.{true≢false}
use Rattle.cacao_vars.specs.Names.{IsName}
use Rattle.cacao_vars.proofs.ReferenceLemmas.{cut_of, name_size, all_behind, value_front, stands_from}
use Rattle.cacao_vars.proofs.references.name_len.Goals as goal

pub returns-then-len-gt-MAX_NAME : goal.returns-then-len-gt-MAX_NAME
returns-then-len-gt-MAX_NAME c = λ begins.
    let run = c.run_len-len.ensures in
    let cut = cut_of c.args.text.now c.run_len-len.result run.within run.each run.end begins in
    let size = name_size begins.0 cut.name_fits in
    absurd (omega (arith, cut.size, size, c.if-len-gt-MAX_NAME.true))

pub returns-then-not-is_name : goal.returns-then-not-is_name
returns-then-not-is_name c = λ begins.
    let run = c.run_len-len.ensures in
    let cut = cut_of c.args.text.now c.run_len-len.result run.within run.each run.end begins in
    true≢false (sym (c.if-not-is_name.ensures.1 (subst IsName (sym cut.front) cut.name_fits)))

pub returns-then-not-begins_with_value : goal.returns-then-not-begins_with_value
returns-then-not-begins_with_value c = λ begins.
    let run = c.run_len-len.ensures in
    let cut = cut_of c.args.text.now c.run_len-len.result run.within run.each run.end begins in
    true≢false (sym (c.if-not-begins_with_value.ensures.1 (value_front _ begins.1 (all_behind c.args.text.now c.run_len-len.result run.within ∙ cut.back))))

pub returns : goal.returns
returns c =
    let run = c.run_len-len.ensures in
    stands_from c.args.text.now c.run_len-len.result run.within (c.if-not-is_name.ensures.0 refl)
    (subst (λ t. t ≡ codes ":value" ++ drop 6 t) (all_behind c.args.text.now c.run_len-len.result run.within) (c.if-not-begins_with_value.ensures.0 refl))
