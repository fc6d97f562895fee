-- Each file of the new site holds the image that was picked.
use Rattle.std.proofs.Common.{ap, ◌∙◌, arith}
use Rattle.cacao_site_memory.specs.MemorySite.{view_of}
use Rattle.cacao_site.specs.View.{SiteView}
use Rattle.cacao_site_memory.proofs.Crashes.{crash-image, crash-left, crash-reads, crash-durable}
use Rattle.cacao_site_log.proofs.Tears.{if_ok}
use Rattle.cacao_site_memory.proofs.site.MemorySite.crash_with.Goals as goal

pub returns-clause-left : goal.returns-clause-left
returns-clause-left c =
    if_ok c.restart.result (λ site e file image le left. crash-left c.args.self.starts c.args.self.log.calls c.args.self.first_beat c.args.self.calls c.args.self.disk_calls c.args.self.written c.args.self.faults c.args.choice c.saturating_add-beat.result c.in_ok-files.files (view_of site).disk (ap (λ (v : SiteView). v.disk) e) (omega arith) c.in_ok-files.ensures.picked file image (omega (arith, le, c.in_ok-files.ensures.count)) left)
    c.restart.ensures.view

pub returns-clause-reads : goal.returns-clause-reads
returns-clause-reads c =
    if_ok c.restart.result (λ site e file le zero. crash-reads c.args.self.starts c.args.self.log.calls c.args.self.first_beat c.args.self.calls c.args.self.disk_calls c.args.self.written c.args.self.faults c.args.choice c.saturating_add-beat.result c.in_ok-files.files (view_of site).disk (ap (λ (v : SiteView). v.disk) e) file ∙ (c.in_ok-files.ensures.picked file (omega (arith, le, c.in_ok-files.ensures.count))).reads zero)
    c.restart.ensures.view

pub returns-clause-synced : goal.returns-clause-synced
returns-clause-synced c =
    if_ok c.restart.result (λ site e file le one. crash-reads c.args.self.starts c.args.self.log.calls c.args.self.first_beat c.args.self.calls c.args.self.disk_calls c.args.self.written c.args.self.faults c.args.choice c.saturating_add-beat.result c.in_ok-files.files (view_of site).disk (ap (λ (v : SiteView). v.disk) e) file ∙ (c.in_ok-files.ensures.picked file (omega (arith, le, c.in_ok-files.ensures.count))).synced one)
    c.restart.ensures.view

pub returns-clause-durable : goal.returns-clause-durable
returns-clause-durable c = if_ok c.restart.result (λ site e. crash-durable c.args.self.starts c.args.self.log.calls c.args.self.first_beat c.args.self.calls c.args.self.disk_calls c.args.self.written c.args.self.faults c.args.choice c.saturating_add-beat.result c.in_ok-files.files (view_of site).disk (ap (λ (v : SiteView). v.disk) e)) c.restart.ensures.view

pub returns-clause-image : goal.returns-clause-image
returns-clause-image c =
    if_ok c.restart.result (λ site e file le. crash-image c.args.self.starts c.args.self.log.calls c.args.self.first_beat c.args.self.calls c.args.self.disk_calls c.args.self.written c.args.self.faults c.args.choice c.saturating_add-beat.result c.in_ok-files.files (view_of site).disk (ap (λ (v : SiteView). v.disk) e) (omega arith) c.in_ok-files.ensures.picked file (omega (arith, le, c.in_ok-files.ensures.count)))
    c.restart.ensures.view
