use Rattle.std.proofs.Common.{◌≡◌, ◌∙◌, [], ap, false, arith, rules}
use Rattle.run_journal.specs.JournalView.{JournalView}
use Rattle.run_journal.proofs.DurableLemmas.{appends_then, file_stays, items_stay, never_full}
use Rattle.run_journal.proofs.journal.Journal.append_durably.Goals as goal

pub returns-in-Ok-append-clause-appends : goal.returns-in-Ok-append-clause-appends
returns-in-Ok-append-clause-appends g c =
    let was = c.args.self.now in
    let unprepared : was.prepared ≡ false = search rules in
    let here = c.requires.images in
    let first = c.in-Ok.ensures in
    let then = c.in-Ok-append.ensures in
    appends_then was c.prepare.new.self c.args.item (g.D.Disk.view c.args.disk.now) (g.D.Disk.view c.prepare.new.disk) (g.D.Disk.view c.append.new.disk)
    unprepared c.requires.whole first.ok (first.each_beat c.requires.whole (λ told image left. (here told image left).0)) first.others first.rest first.calls first.bytes
    then.each_stands then.others then.rest then.calls then.bytes

pub returns-in-Err-append-clause-appends : goal.returns-in-Err-append-clause-appends
returns-in-Err-append-clause-appends g c =
    let was = c.args.self.now in
    let unprepared : was.prepared ≡ false = search rules in
    let here = c.requires.images in
    let first = c.in-Ok.ensures in
    let then = c.in-Err-append.ensures in
    appends_then was c.prepare.new.self c.args.item (g.D.Disk.view c.args.disk.now) (g.D.Disk.view c.prepare.new.disk) (g.D.Disk.view c.append.new.disk)
    unprepared c.requires.whole first.ok (first.each_beat c.requires.whole (λ told image left. (here told image left).0)) first.others first.rest first.calls first.bytes
    then.each_stands then.others then.rest then.calls then.bytes

pub returns-in-Err-append-clause-file : goal.returns-in-Err-append-clause-file
returns-in-Err-append-clause-file g c =
    let says = c.in-Err-append.ensures in
    file_stays c.in-Err-append.error c.prepare.new.self c.append.new.self says.breaks (λ e. (says.broken_stays e).1) (λ needed e. (says.full_stays needed e).1) says.no_other
    ∙ ap (λ (v : JournalView). v.file) c.in-Ok.ensures.ok

pub returns-in-Err-append-clause-items : goal.returns-in-Err-append-clause-items
returns-in-Err-append-clause-items g c =
    let says = c.in-Err-append.ensures in
    items_stay c.in-Err-append.error c.prepare.new.self c.append.new.self says.breaks (λ e. (says.broken_stays e).1) (λ needed e. (says.full_stays needed e).1) says.no_other
    ∙ ap (λ (v : JournalView). v.items) c.in-Ok.ensures.ok

pub returns-in-Err-append-clause-full_stays : goal.returns-in-Err-append-clause-full_stays
returns-in-Err-append-clause-full_stays g c = λ needed e.
    let full = c.in-Err-append.ensures.full needed e in
    let unprepared : c.args.self.now.prepared ≡ false = search rules in
    let none : c.prepare.new.self.items ≡ [] = ap (λ (v : JournalView). v.items) c.in-Ok.ensures.ok ∙ c.if-is_prepared.ensures.blank unprepared in
    absurd (never_full c.prepare.new.self.items c.args.item none c.requires.size (omega arith))

pub returns-in-Err-append-clause-no_other : goal.returns-in-Err-append-clause-no_other
returns-in-Err-append-clause-no_other g c = λ place.
    let says = c.in-Err-append.ensures in
    let still : c.prepare.new.self.broken ≡ false = ap (λ (v : JournalView). v.broken) c.in-Ok.ensures.ok ∙ c.requires.whole in
    ((λ e. let both = says.broken.0 e in cc), (says.no_other place).1, (says.no_other place).0)

pub returns-in-Err-clause-full_only : goal.returns-in-Err-clause-full_only
returns-in-Err-clause-full_only g c = λ past.
    let unprepared : c.args.self.now.prepared ≡ false = search rules in
    absurd (never_full c.args.self.now.items c.args.item (c.if-is_prepared.ensures.blank unprepared) c.requires.size past)
