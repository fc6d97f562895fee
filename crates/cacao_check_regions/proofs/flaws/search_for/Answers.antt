use Rattle.std.proofs.Common.{sym, subst}
use Rattle.std.specs.Prelude.{All}
use Rattle.std.proofs.lemmas.List.Elements.{All-push}
use Rattle.cacao_check_regions.specs.Memories.{IsExact}
use Rattle.cacao_check_regions.proofs.SourceLemmas.{declaring_within, flawed_within}
use Rattle.cacao_check_regions.proofs.MemoryLemmas.{served_found, served_kept, grows_pushed}
use Rattle.cacao_check_regions.proofs.flaws.search_for.Goals as goal

pub seen_marks-requires-clause-declaring : goal.seen_marks-requires-clause-declaring
seen_marks-requires-clause-declaring c = declaring_within c.args.book.now c.args.name.now c.args.flaw.now c.in_ok-sources.sources c.in_ok-sources.ensures

pub seen_marks-requires-clause-flawed : goal.seen_marks-requires-clause-flawed
seen_marks-requires-clause-flawed c = flawed_within c.args.book.now c.args.name.now c.args.flaw.now c.in_ok-sources.sources c.in_ok-sources.ensures

pub returns-in-Some-clause-serves : goal.returns-in-Some-clause-serves
returns-in-Some-clause-serves c = served_found c.args.book.now c.args.searches.now.items.items c.in-Some.at c.args.name.now c.args.flaw.now c.in_ok-sources.sources c.requires.exact c.in_ok-sources.ensures c.in-Some.ensures

pub returns-clause-exact : goal.returns-clause-exact
returns-clause-exact c = subst (All (IsExact c.args.book.now)) (sym c.in_ok-at.ensures.items) (All-push (IsExact c.args.book.now) c.args.searches.now.items.items (record { sources = c.in_ok-sources.sources; marks = c.in_ok-marks.marks }) c.requires.exact c.in_ok-marks.ensures)

pub returns-clause-grows : goal.returns-clause-grows
returns-clause-grows c = grows_pushed c.args.searches.now.items.items c.keep.new.self.items.items (record { sources = c.in_ok-sources.sources; marks = c.in_ok-marks.marks }) c.in_ok-at.ensures.items

pub returns-clause-serves : goal.returns-clause-serves
returns-clause-serves c = served_kept c.args.book.now c.args.searches.now.items.items c.keep.new.self.items.items (record { sources = c.in_ok-sources.sources; marks = c.in_ok-marks.marks }) c.in_ok-at.at c.args.name.now c.args.flaw.now c.in_ok-at.ensures.items c.in_ok-at.ensures.at c.in_ok-marks.ensures c.in_ok-sources.ensures
