use Rattle.std.proofs.Common.{sym, ap, subst}
use Rattle.std.proofs.lemmas.Bool.{false≢true}
use Rattle.cacao_check_regions.specs.declared.searches.Searches.{Searches}
use Rattle.cacao_check_regions.specs.Memories.{Serves}
use Rattle.cacao_check_regions.proofs.MemoryLemmas.{serves_within, told_by, told_recalled, remembers_more}
use Rattle.cacao_check_regions.proofs.flaws.sees_flaw.Goals as goal

pub returns-then-is_never_missing-clause-sees : goal.returns-then-is_never_missing-clause-sees
returns-then-is_never_missing-clause-sees c =
    (λ f. absurd (false≢true f), λ s. absurd (c.is_never_missing.ensures c.if-is_never_missing.true s))

pub returns-then-is_plainly_hidden-clause-sees : goal.returns-then-is_plainly_hidden-clause-sees
returns-then-is_plainly_hidden-clause-sees c =
    (λ f. absurd (false≢true f), λ s. absurd (c.is_plainly_hidden.ensures c.if-is_plainly_hidden.true s))

pub returns-in-Some-clause-sees : goal.returns-in-Some-clause-sees
returns-in-Some-clause-sees c = told_recalled c.args.book.now c.args.memory.now c.args.name.now c.args.flaw.now c.args.place c.in-Some.sees c.requires.memory c.in-Some.ensures

pub has-sees-requires : goal.has-sees-requires
has-sees-requires c = serves_within c.args.book.now c.search_for.new.searches.items.items c.in_ok-search.search c.args.name.now c.args.flaw.now c.in_ok-search.ensures.serves

pub returns-clause-sees : goal.returns-clause-sees
returns-clause-sees c = told_by c.args.book.now c.search_for.new.searches.items.items c.in_ok-search.search c.args.name.now c.args.flaw.now c.args.place c.has-sees.result c.in_ok-search.ensures.serves c.has-sees.ensures

pub returns-clause-memory : goal.returns-clause-memory
returns-clause-memory c =
    let searches = c.search_for.new.searches.items.items in
    let named : Serves c.args.book.now searches c.in_ok-search.search c.in_ok-name.name c.args.flaw.now =
    subst (λ n. Serves c.args.book.now searches c.in_ok-search.search n c.args.flaw.now) (sym c.in_ok-name.ensures) c.in_ok-search.ensures.serves in
    let serves : Serves c.args.book.now searches c.in_ok-search.search c.in_ok-name.name c.in_ok-flaw.flaw =
    subst (Serves c.args.book.now searches c.in_ok-search.search c.in_ok-name.name) (sym c.in_ok-flaw.ensures) named in
    remembers_more c.args.book.now c.args.memory.now c.keep.new.self searches (record { name = c.in_ok-name.name; flaw = c.in_ok-flaw.flaw; search = c.in_ok-search.search })
    c.requires.memory c.in_ok-search.ensures.exact c.in_ok-search.ensures.grows serves (ap (λ (s : Searches). s.items.items) c.in_ok-keep.ensures.searches) c.in_ok-keep.ensures.recalls
