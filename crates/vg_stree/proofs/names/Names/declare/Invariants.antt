use Rattle.std.proofs.Common.{◌≡◌, drop, ◌&&◌, not}
use Rattle.std.specs.List.{list_any}
use Rattle.std.specs.Str.{bytes_eq}
use Rattle.vg_stree.specs.Names.{seen}
use Rattle.vg_stree.specs.Specification as specification
use Rattle.vg_stree.proofs.names.Names.declare.Given as goal

abbrev pub invariant-loop-named : goal.invariant-loop-named
invariant-loop-named l = list_any (λ name. bytes_eq name.spelled l.word && not (specification.is_field l.fields name.at))
    (seen (drop l.named-index l.named-items))
    ≡ list_any (λ name. bytes_eq name.spelled l.word && not (specification.is_field l.fields name.at)) (seen l.named-items)
