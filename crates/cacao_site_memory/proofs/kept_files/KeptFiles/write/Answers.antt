-- The file after the write.
use Rattle.std.proofs.Common.{ℕ, List, ◌+◌, ◌<◌, max, false, ◌∙◌, ap, sym, length, get_or, rules}
use Rattle.std.proofs.lemmas.List.{get_or-set_same}
use Rattle.cacao_site_memory.proofs.KeptLemmas.{keeps-written}
use Rattle.cacao_site_memory.proofs.kept_files.KeptFiles.write.Goals as goal

pub returns-clause-written : goal.returns-clause-written
returns-clause-written c =
    let there : c.args.file < length c.put_all-whole.new.self.lengths = search rules in
    let too : c.args.file < length c.put_all-whole.new.self.whole = search rules in
    keeps-written c.args.self.now _ c.args.file c.args.at c.args.bytes.now
    (get_or-set_same c.put_all-whole.new.self.lengths c.args.file c.max.result 0 there
    ∙ c.max.ensures
    ∙ ap (λ (l : List ℕ). max (get_or l c.args.file 0) (c.args.at + length c.args.bytes.now)) c.put_all-whole.ensures.lengths)
    (λ is. c.put_all-whole.ensures.was_whole (sym (get_or-set_same c.put_all-whole.new.self.whole c.args.file c.put_all-whole.result false too) ∙ is))
    (λ is. c.put_all-whole.ensures.put (sym (get_or-set_same c.put_all-whole.new.self.whole c.args.file c.put_all-whole.result false too) ∙ is))
