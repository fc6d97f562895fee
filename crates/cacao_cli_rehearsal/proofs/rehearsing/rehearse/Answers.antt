use Rattle.std.proofs.Common.{◌≡◌, ℕ, List, Some, arith, subst}
use Rattle.cacao_json.specs.Reading.{tree}
use Rattle.cacao_site_memory.specs.MemorySite.{view_of}
use Rattle.cacao_site_memory.specs.MemorySound.{site-sound}
use Rattle.cacao_cli_rehearsal.specs.Books.{rehearsal}
use Rattle.cacao_cli_rehearsal.proofs.Blank.{comes_of_new, not_run}
use Rattle.cacao_cli_rehearsal.proofs.Running.{fails_then, goes_by_plan, not_read, runs_then}
use Rattle.cacao_cli_rehearsal.proofs.rehearsing.rehearse.Goals as goal

pub returns-in-Err-clause-err : goal.returns-in-Err-clause-err
returns-in-Err-clause-err c = not_read c.args.positions c.in_ok-text.text (view_of c.args.site.now.site) c.in-Err.error c.in_ok-text.ensures.text (omega (arith, c.len.ensures, c.if-len-gt-TEXT_LIMIT.false)) c.in-Err.ensures.err

pub returns-then-is_sound-clause-ok : goal.returns-then-is_sound-clause-ok
returns-then-is_sound-clause-ok c =
    runs_then c.args.positions c.in_ok-text.text c.in-Ok.setup (view_of c.args.site.now.site) (view_of c.run-ran.new.site.site) c.in_ok-text.ensures.text (omega (arith, c.len.ensures, c.if-len-gt-TEXT_LIMIT.false)) c.in-Ok.ensures.ok
    c.run-ran.result c.run-ran.ensures.ok

pub returns-then-is_sound-clause-err : goal.returns-then-is_sound-clause-err
returns-then-is_sound-clause-err c =
    fails_then c.args.positions c.in_ok-text.text c.in-Ok.setup (view_of c.args.site.now.site) (view_of c.run-ran.new.site.site) c.in_ok-text.ensures.text (omega (arith, c.len.ensures, c.if-len-gt-TEXT_LIMIT.false)) c.in-Ok.ensures.ok
    c.run-ran.result c.run-ran.ensures.err

pub returns-in-Err-clause-new_site : goal.returns-in-Err-clause-new_site
returns-in-Err-clause-new_site c is = not_run c.in_ok-text.text c.in-Err.error c.in-Err.ensures.err

pub returns-then-is_sound-clause-new_site : goal.returns-then-is_sound-clause-new_site
returns-then-is_sound-clause-new_site c =
    comes_of_new c.args.positions (subst (λ (t : List ℕ). tree t ≡ Some (rehearsal c.args.positions)) c.in_ok-text.ensures.text c.in_ok-text.ensures.reads) c.args.site.now.site c.run-ran.new.site.site
    (site-sound c.run-ran.new.site.site) (c.is_sound.ensures c.if-is_sound.true) c.run-ran.result (returns-then-is_sound-clause-err c)

pub returns-then-is_sound-clause-by_plan : goal.returns-then-is_sound-clause-by_plan
returns-then-is_sound-clause-by_plan c = goes_by_plan c.run-ran.result c.run-ran.new.site.site (c.is_sound.ensures c.if-is_sound.true)
