-- While the header is written each image has at most 9 bytes.
use Rattle.std.proofs.Common.{◌≡◌, ◌≢◌, [], ℕ, false, ap, sym, ◌∙◌, subst, IsTrue}
use Rattle.cacao_site.specs.DiskCalls.{StaysAt}
use Rattle.run_journal.specs.JournalView.{JournalView}
use Rattle.run_journal.proofs.Headers.{prepare_beats, prepare_written}
use Rattle.run_journal.proofs.journal.Journal.prepare.Goals as goal

pub returns-in-Ok-clause-each_beat : goal.returns-in-Ok-clause-each_beat
returns-in-Ok-clause-each_beat g c = λ whole stood.
    let file_is : c.self.inside.file ≡ c.args.self.now.file = ap (λ (v : JournalView). v.file) c.self.view_is in
    let items_is : c.self.inside.items.items ≡ c.args.self.now.items = ap (λ (v : JournalView). v.items) c.self.view_is in
    let prepared : c.args.self.now.prepared ≡ false = ap (λ (v : JournalView). v.prepared) (sym c.self.view_is) ∙ c.if-self-2.false in
    let blank : c.args.self.now.items ≡ [] = sym items_is ∙ c.self.invariant.blank c.if-self-2.false in
    prepare_beats (g.D.Disk.view c.args.disk.now).disk (g.D.Disk.view c.write_and_sync.new.disk).disk c.args.self.now.file c.self.inside.file c.args.self.now.items file_is blank (c.requires whole prepared) c.write_and_sync.ensures.torn

pub returns-in-Ok-clause-written : goal.returns-in-Ok-clause-written
returns-in-Ok-clause-written g c = λ unprepared.
    let file_is : c.self.inside.file ≡ c.args.self.now.file = ap (λ (v : JournalView). v.file) c.self.view_is in
    let items_is : c.self.inside.items.items ≡ c.args.self.now.items = ap (λ (v : JournalView). v.items) c.self.view_is in
    let prepared : c.args.self.now.prepared ≡ false = ap (λ (v : JournalView). v.prepared) (sym c.self.view_is) ∙ c.if-self-2.false in
    let blank : c.args.self.now.items ≡ [] = sym items_is ∙ c.self.invariant.blank c.if-self-2.false in
    let whole : c.args.self.now.broken ≡ false = ap (λ (v : JournalView). v.broken) (sym c.self.view_is) ∙ c.if-self.false in
    prepare_written (g.D.Disk.view c.args.disk.now).disk (g.D.Disk.view c.write_and_sync.new.disk).disk c.args.self.now.file c.self.inside.file c.args.self.now.items file_is blank (c.requires whole prepared) ((g.met.D.Disk.sound c.args.disk.now).reads c.args.self.now.file) (subst IsTrue c.write_and_sync.ensures.torn.goes_on.told) c.in-Ok.ensures.durable c.in-Ok.ensures.written

pub returns-in-Ok-clause-others : goal.returns-in-Ok-clause-others
returns-in-Ok-clause-others g c =
    subst (λ f. (other : ℕ) → other ≢ f → StaysAt (g.D.Disk.view c.args.disk.now).disk (g.D.Disk.view c.write_and_sync.new.disk).disk other) (ap (λ (v : JournalView). v.file) c.self.view_is) c.write_and_sync.ensures.others

pub returns-in-Err-clause-each_beat : goal.returns-in-Err-clause-each_beat
returns-in-Err-clause-each_beat g c = λ whole stood.
    let file_is : c.self.inside.file ≡ c.args.self.now.file = ap (λ (v : JournalView). v.file) c.self.view_is in
    let items_is : c.self.inside.items.items ≡ c.args.self.now.items = ap (λ (v : JournalView). v.items) c.self.view_is in
    let prepared : c.args.self.now.prepared ≡ false = ap (λ (v : JournalView). v.prepared) (sym c.self.view_is) ∙ c.if-self-2.false in
    let blank : c.args.self.now.items ≡ [] = sym items_is ∙ c.self.invariant.blank c.if-self-2.false in
    prepare_beats (g.D.Disk.view c.args.disk.now).disk (g.D.Disk.view c.write_and_sync.new.disk).disk c.args.self.now.file c.self.inside.file c.args.self.now.items file_is blank (c.requires whole prepared) c.write_and_sync.ensures.torn

pub returns-in-Err-clause-others : goal.returns-in-Err-clause-others
returns-in-Err-clause-others g c =
    subst (λ f. (other : ℕ) → other ≢ f → StaysAt (g.D.Disk.view c.args.disk.now).disk (g.D.Disk.view c.write_and_sync.new.disk).disk other) (ap (λ (v : JournalView). v.file) c.self.view_is) c.write_and_sync.ensures.others
