use Rattle.std.proofs.Common.{refl, ap, ◌∙◌, arith}
use Rattle.std.proofs.lemmas.Bool.{false≢true, true≢false}
use Rattle.vg_doubles.specs.Pages.{is_reading}
use Rattle.vg_doubles.proofs.PageCalls.{open-within, reader-reading, writer-writing, closes-page, close-fit}
use Rattle.vg_doubles.proofs.memory.MemFilesFiles.close.Goals as goal

pub close_page-reads-requires : goal.close_page-reads-requires
close_page-reads-requires c = omega (arith, open-within c.args.self.now.held.items c.args.self.now.pages.items c.args.id c.requires, c.args.self.now.pages.ok.0)

pub invariant_of-self : goal.invariant_of-self
invariant_of-self c =
    let fit = rw (← c.close_page-reads.ensures.now) at (close-fit c.args.self.now.pages.items c.args.id) in
    record {
      few = omega (arith, fit.count, c.args.self.now.few, c.args.self.now.pages.ok.0, c.close_page-reads.new.pages.ok.0);
      memory = fit.memory c.args.self.now.room c.args.self.now.memory;
      readable = fit.readable c.args.self.now.held.items c.args.self.now.readable;
    }

pub invariant_of-self-then-reads : goal.invariant_of-self-then-reads
invariant_of-self-then-reads c =
    let fit = rw (← c.close_page-reads.ensures.now) at (close-fit c.args.self.now.pages.items c.args.id) in
    record {
      few = omega (arith, fit.count, c.args.self.now.few, c.args.self.now.pages.ok.0, c.close_page-reads.new.pages.ok.0);
      memory = fit.memory c.args.self.now.room c.args.self.now.memory;
      readable = fit.readable c.args.self.now.held.items c.args.self.now.readable;
    }

pub invariant_of-self-else-reads : goal.invariant_of-self-else-reads
invariant_of-self-else-reads c =
    let fit = rw (← c.close_page-reads.ensures.now) at (close-fit c.args.self.now.pages.items c.args.id) in
    record {
      few = omega (arith, fit.count, c.args.self.now.few, c.args.self.now.pages.ok.0, c.close_page-reads.new.pages.ok.0);
      memory = fit.memory c.args.self.now.room c.args.self.now.memory;
      readable = fit.readable c.args.self.now.held.items c.args.self.now.readable;
    }

pub returns-then-not-fails-clause-closes : goal.returns-then-not-fails-clause-closes
returns-then-not-fails-clause-closes c =
    let closes = closes-page c.args.self.now.held.items c.args.self.now.pages.items c.close_page-reads.new.pages.items c.args.id
    c.close_page-reads.ensures.now c.requires in
    record {
      of_read = λ is. (record { failed = tt; same = refl; rises = omega arith }, refl);
      of_write = λ is. (record { failed = tt; same = refl; rises = omega arith }, refl);
      read_faults = refl;
      held = record { tells_held = refl; held = refl; tells_made = refl };
      made = closes.made;
      closes = record { now = closes.now; others = closes.others; one_less = closes.one_less };
    }

pub returns-then-not-fails-clause-left : goal.returns-then-not-fails-clause-left
returns-then-not-fails-clause-left c =
    (closes-page c.args.self.now.held.items c.args.self.now.pages.items c.close_page-reads.new.pages.items c.args.id c.close_page-reads.ensures.now
    c.requires).free_pages

pub returns-then-reads-clause-closes : goal.returns-then-reads-clause-closes
returns-then-reads-clause-closes c =
    let closes = closes-page c.args.self.now.held.items c.args.self.now.pages.items c.close_page-reads.new.pages.items c.args.id
    c.close_page-reads.ensures.now c.requires in
    record {
      of_read = λ is. (record { failed = omega (arith, c.saturating_add-self.ensures); same = tt; rises = omega (arith, c.saturating_add-self.ensures) }, refl);
      of_write = λ is. absurd (true≢false
          (c.if-reads.ensures.reads ∙ ap is_reading (writer-writing c.args.self.now.held.items c.args.self.now.pages.items c.args.id is)));
      read_faults = refl;
      held = record { tells_held = refl; held = refl; tells_made = refl };
      made = closes.made;
      closes = record { now = closes.now; others = closes.others; one_less = closes.one_less };
    }

pub returns-then-reads-clause-left : goal.returns-then-reads-clause-left
returns-then-reads-clause-left c =
    (closes-page c.args.self.now.held.items c.args.self.now.pages.items c.close_page-reads.new.pages.items c.args.id c.close_page-reads.ensures.now
    c.requires).free_pages

pub returns-else-reads-clause-closes : goal.returns-else-reads-clause-closes
returns-else-reads-clause-closes c =
    let closes = closes-page c.args.self.now.held.items c.args.self.now.pages.items c.close_page-reads.new.pages.items c.args.id
    c.close_page-reads.ensures.now c.requires in
    record {
      of_read = λ is. absurd (false≢true (c.if-reads.ensures.reads ∙ reader-reading c.args.self.now.held.items c.args.self.now.pages.items c.args.id is));
      of_write = λ is. (
        record {
          failed = omega (arith, c.saturating_add-self-else-reads.ensures);
          same = tt;
          rises =
              omega (arith, c.saturating_add-self-else-reads.ensures);
        },
        refl,
      );
      read_faults = refl;
      held = record { tells_held = refl; held = refl; tells_made = refl };
      made = closes.made;
      closes = record { now = closes.now; others = closes.others; one_less = closes.one_less };
    }

pub returns-else-reads-clause-left : goal.returns-else-reads-clause-left
returns-else-reads-clause-left c =
    (closes-page c.args.self.now.held.items c.args.self.now.pages.items c.close_page-reads.new.pages.items c.args.id c.close_page-reads.ensures.now
    c.requires).free_pages
