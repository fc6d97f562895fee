use Rattle.cacao_json.proofs.Shapes.{IsTree-from_tree}
use Rattle.cacao_json.proofs.Readings.{read-reading, HasTree-from_tree}
use Rattle.cacao_text.proofs.Lengths.{length-canon-read, length-book_text}
use Rattle.cacao_text.proofs.LawLemmas.{tree-canon, one_text, fixed, tree-book_text, book_fixed}
use Rattle.cacao_text.proofs.laws.canonical_law.Goals as goal

pub returns-clause-trees : goal.returns-clause-trees
returns-clause-trees c = IsTree-from_tree

pub returns-clause-reads_back : goal.returns-clause-reads_back
returns-clause-reads_back c = tree-canon

pub returns-clause-one_text : goal.returns-clause-one_text
returns-clause-one_text c = one_text

pub returns-clause-fixed : goal.returns-clause-fixed
returns-clause-fixed c = fixed

pub returns-clause-book_reads_back : goal.returns-clause-book_reads_back
returns-clause-book_reads_back c = tree-book_text

pub returns-clause-book_fixed : goal.returns-clause-book_fixed
returns-clause-book_fixed c = book_fixed

pub returns-clause-no_longer : goal.returns-clause-no_longer
returns-clause-no_longer c = λ bytes d e. length-canon-read bytes d (read-reading bytes d (HasTree-from_tree bytes d e).reads).1

pub returns-clause-book_no_longer : goal.returns-clause-book_no_longer
returns-clause-book_no_longer c = length-book_text
