use Rattle.std.proofs.Common.{refl, sym, ◌∙◌, length, arith}
use Rattle.vg_doubles.specs.Pages.{made_at}
use Rattle.vg_doubles.proofs.PageCalls.{writer-writing, writer-seen, names-are, made_behind-writing, takes-some}
use Rattle.vg_doubles.proofs.memory.MemFilesFiles.write.Goals as goal
use Rattle.vg_doubles.proofs.memory.MemFilesFiles.write.Goals.{then-not-next_fails+in_default, else-not-next_fails}

pub append-requires-clause-writes : goal.append-requires-clause-writes
append-requires-clause-writes c = writer-writing c.args.self.now.held.items c.args.self.now.pages.items c.args.id c.requires

pub returns-in-Some-clause-writes : goal.returns-in-Some-clause-writes
returns-in-Some-clause-writes c =
    let held = c.args.self.now.held.items in
    let pages = c.args.self.now.pages.items in
    let wrote = c.in-Some.ensures in
    let is_writing = writer-writing held pages c.args.id c.requires in
    record {
      faults = record { failed = tt; same = refl; rises = omega arith };
      keeps = record {
        read_faults = refl;
        shut_faults = refl;
        held = record { tells_held = refl; held = refl; tells_made = refl };
        ids = record { opened = wrote.roles.opened held; open_count = wrote.roles.open_pages };
      };
      within = omega (arith, wrote.taken);
      some = takes-some c.in-Some.n (length c.args.piece.now) c.args.self.now.room (length (made_at pages c.args.id)) wrote.taken wrote.fails;
      grows = λ told name is. rw (names-are (sym (writer-seen held pages c.args.id is_writing) ∙ is)).0 at wrote.grows;
      err = tt;
    }

pub returns-in-Some-clause-fails : goal.returns-in-Some-clause-fails
returns-in-Some-clause-fails c =
    let held = c.args.self.now.held.items in
    let pages = c.args.self.now.pages.items in
    let made = made_behind-writing held pages c.args.id (writer-writing held pages c.args.id c.requires) in
    rw (made, ← c.if-not-next_fails.ensures.fails) c.in-Some.ensures.fails

pub returns-in-Some-clause-taken : goal.returns-in-Some-clause-taken
returns-in-Some-clause-taken c =
    let held = c.args.self.now.held.items in
    let pages = c.args.self.now.pages.items in
    let made = made_behind-writing held pages c.args.id (writer-writing held pages c.args.id c.requires) in
    rw made c.in-Some.ensures.taken

pub returns-clause-fails : goal.returns-clause-fails
returns-clause-fails c =
    let held = c.args.self.now.held.items in
    let pages = c.args.self.now.pages.items in
    let made = made_behind-writing held pages c.args.id (writer-writing held pages c.args.id c.requires) in
    elim c.if-not-next_fails.branch [
      | then-not-next_fails+in_default w ↦ rw (made, ← w.if-not-next_fails.ensures.fails) w.in_default.ensures.fails
      | else-not-next_fails w ↦ rw (← w.if-not-next_fails.ensures.fails) refl
    ]
