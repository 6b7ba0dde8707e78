use Rattle.std.proofs.Common.{◌≡◌, ◌∙◌, ◌<◌, rules, ap, sym, length, arith}
use Rattle.vg_cscope.specs.Names as names
use Rattle.vg_cscope.specs.Tables as tables
use Rattle.vg_cscope.specs.Views.{walked}
use Rattle.vg_cscope.proofs.Finding.{begin, stop, go_on}
use Rattle.vg_cscope.proofs.table.Table.nearest.Goals as goal

pub loop-height-init : goal.loop-height-init
loop-height-init c =
    let heads = c.args.self.now.heads.items in
    let at : c.bucket.result ≡ tables.bucket (length heads) (names.spelling c.args.walk.now.text.now c.args.name) = search rules in
    let below : c.bucket.result < length heads = search rules in
    let r = begin (walked c.args.walk.now) c.args.wanted c.args.name c.requires.name c.args.self.now.stack.items heads c.requires.table
    c.bucket.result c.index-height.result.now at below c.index-height.ensures in
    record { within = r.0; head = r.1; same = r.2 }

pub returns-then-is_wanted : goal.returns-then-is_wanted
returns-then-is_wanted c =
    stop (walked c.args.walk.now) c.args.wanted c.args.name c.requires.name c.args.self.now.stack.items c.args.self.now.heads.items c.requires.table
    c.loop-height.height c.index-entry.result.now c.loop-height-test.true c.loop-height.invariant.within c.index-entry.ensures
    (ap (names.is_wanted c.args.walk.now.text.now c.args.wanted) (sym c.kind.ensures) ∙ sym c.is_wanted.ensures ∙ c.if-is_wanted.true)
    ∙ c.loop-height.invariant.same

pub loop-height-smaller : goal.loop-height-smaller
loop-height-smaller c =
    (go_on (walked c.args.walk.now) c.args.wanted c.args.name c.requires.name c.args.self.now.stack.items c.args.self.now.heads.items c.requires.table
    c.loop-height.height c.index-entry.result.now c.loop-height-test.true c.loop-height.invariant.within c.index-entry.ensures c.loop-height.invariant.head
    (ap (names.is_wanted c.args.walk.now.text.now c.args.wanted) (sym c.kind.ensures) ∙ sym c.is_wanted.ensures ∙ c.if-is_wanted.false)).0

pub loop-height-preserved : goal.loop-height-preserved
loop-height-preserved c =
    let r = go_on (walked c.args.walk.now) c.args.wanted c.args.name c.requires.name c.args.self.now.stack.items c.args.self.now.heads.items c.requires.table
    c.loop-height.height c.index-entry.result.now c.loop-height-test.true c.loop-height.invariant.within c.index-entry.ensures c.loop-height.invariant.head
    (ap (names.is_wanted c.args.walk.now.text.now c.args.wanted) (sym c.kind.ensures) ∙ sym c.is_wanted.ensures ∙ c.if-is_wanted.false) in
    let less : c.index-entry.result.now.below < c.loop-height.height = r.0 in
    let within = c.loop-height.invariant.within in
    record { within = omega arith; head = r.1; same = r.2 ∙ c.loop-height.invariant.same }
