use Rattle.std.proofs.Common.{◌≡◌, ◌≤◌, ◌+◌, ◌-◌, ◌*◌, ◌^◌, [], length, drop}
use Rattle.vg_cmean.specs.Views.{seen, IsSame}
use Rattle.vg_cmean.specs.Typings.{place_at}
use Rattle.vg_cmean.specs.Meaning as meaning
use Rattle.vg_cmean.specs.Meaning.{meaning_below}
use Rattle.vg_cmean.specs.Chains.{IsChain, gives_above, branched_at}
use Rattle.vg_cmean.specs.Arguments.{given_from}
use Rattle.vg_cmean.proofs.run.+machine.Given as goal

abbrev pub decreases-expression : goal.decreases-expression
decreases-expression l = 2 ^ 33 * (3 * l.n + 2) + 1

abbrev pub decreases-alone : goal.decreases-alone
decreases-alone l = 2 ^ 33 * (3 * l.n + 2)

abbrev pub decreases-linked : goal.decreases-linked
decreases-linked l = 2 ^ 33 * (3 * l.n + 1) + 7

abbrev pub decreases-link : goal.decreases-link
decreases-link l = 2 ^ 33 * (3 * l.n + 1) + 6

abbrev pub decreases-statement : goal.decreases-statement
decreases-statement l = 2 ^ 33 * (3 * l.n + 2)

abbrev pub decreases-before_operand : goal.decreases-before_operand
decreases-before_operand l = 2 ^ 33 * (3 * l.n + 1) + 5

abbrev pub decreases-operation : goal.decreases-operation
decreases-operation l = 2 ^ 33 * (3 * l.n + 1) + 5

abbrev pub decreases-choose : goal.decreases-choose
decreases-choose l = 2 ^ 33 * (3 * l.n + 1) + 5

abbrev pub decreases-index_of : goal.decreases-index_of
decreases-index_of l = 2 ^ 33 * (3 * l.n + 1) + 5

abbrev pub decreases-library : goal.decreases-library
decreases-library l = 2 ^ 33 * (3 * l.n + 1) + 5

abbrev pub decreases-declaration : goal.decreases-declaration
decreases-declaration l = 2 ^ 33 * (3 * l.n + 1) + 5

abbrev pub decreases-assign : goal.decreases-assign
decreases-assign l = 2 ^ 33 * (3 * l.n + 1) + 5

abbrev pub decreases-branch : goal.decreases-branch
decreases-branch l = 2 ^ 33 * (3 * l.first.node + 1) + 5

abbrev pub decreases-otherwise : goal.decreases-otherwise
decreases-otherwise l = 2 ^ 33 * (3 * l.n + 1)

abbrev pub decreases-branch-loop-branch : goal.decreases-branch-loop-branch
decreases-branch-loop-branch l = l.branch.node

abbrev pub decreases-run_all : goal.decreases-run_all
decreases-run_all l = 2 ^ 33 * (3 * l.n + 1) + 5

abbrev pub decreases-turns : goal.decreases-turns
decreases-turns l = 2 ^ 33 * (3 * l.n + 1) + 5

abbrev pub decreases-turn : goal.decreases-turn
decreases-turn l = 2 ^ 33 * (3 * l.n + 1) + 4

abbrev pub decreases-call : goal.decreases-call
decreases-call l = 2 ^ 33 * (3 * l.n + 1) + 2 ^ 32 + 2

abbrev pub decreases-call_function : goal.decreases-call_function
decreases-call_function l = 2 ^ 33 * (3 * l.n + 1) + 2 ^ 32 + 1

abbrev pub decreases-given : goal.decreases-given
decreases-given l = 2 ^ 33 * (3 * l.n + 1) + 2 ^ 32

abbrev pub decreases-given_in_calls : goal.decreases-given_in_calls
decreases-given_in_calls l = 2 ^ 33 * (3 * l.n + 1) + length l.arguments.now

abbrev pub decreases-part : goal.decreases-part
decreases-part l = 2 ^ 33 * (3 * l.n)

abbrev pub decreases-part_does : goal.decreases-part_does
decreases-part_does l = 2 ^ 33 * (3 * l.n)

abbrev pub decreases-part_value : goal.decreases-part_value
decreases-part_value l = 2 ^ 33 * (3 * l.n) + 1

abbrev pub invariant-run_all-loop-p : goal.invariant-run_all-loop-p
invariant-run_all-loop-p l =
    IsSame l.initial.world l.world × (meaning.run_all (meaning_below l.env.unit.now l.n) (drop l.p-index l.list) (seen l.world) ≡ meaning.run_all
    (meaning_below l.env.unit.now l.n) l.list (seen l.initial.world))

abbrev pub invariant-turns-loop-turn : goal.invariant-turns-loop-turn
invariant-turns-loop-turn l =
    IsSame l.initial.world l.world × (meaning.turns l.env.unit.now (meaning.most_turns - l._turn) l.n (meaning_below l.env.unit.now l.n l.body)
    l.counter l.bound l.step (seen l.world)
    ≡ meaning.turns l.env.unit.now meaning.most_turns l.n (meaning_below l.env.unit.now l.n l.body) l.fn.first l.bound l.step (seen l.initial.world))

abbrev pub invariant-expression-loop-link : goal.invariant-expression-loop-link
invariant-expression-loop-link l =
    IsSame l.fn.world l.world
    × IsChain l.env.unit.now l.env.above.now l.n (l.links - l._link) l.at
    × (gives_above l.env.unit.now l.env.above.now (l.links - l._link) l.at l.datum (seen l.world) ≡ (meaning.meaning l.env.unit.now l.n).gives
    (seen l.fn.world))

abbrev pub invariant-branch-loop-branch : goal.invariant-branch-loop-branch
invariant-branch-loop-branch l =
    IsSame l.fn.world l.world
    × (l.branch.node ≤ l.fn.first.node)
    × (branched_at l.env.unit.now l.branch (seen l.world) ≡ branched_at l.env.unit.now l.fn.first (seen l.fn.world))

abbrev pub decreases-frame_call : goal.decreases-frame_call
decreases-frame_call l = 2 ^ 33 * (3 * l.n + 1) + 4

abbrev pub invariant-frame_call-loop-argument : goal.invariant-frame_call-loop-argument
invariant-frame_call-loop-argument l =
    IsSame l.fn.world l.world
    × (length l.data.items ≤ l.argument-index)
    × (meaning.frame_call (meaning_below l.env.unit.now l.n) l.row (place_at l.env.unit.now l.n) l.data.items (drop l.argument-index l.arguments) (seen l.world)
    ≡ meaning.frame_call (meaning_below l.env.unit.now l.n) l.row (place_at l.env.unit.now l.n) [] l.arguments (seen l.fn.world))

abbrev pub decreases-given_waiting : goal.decreases-given_waiting
decreases-given_waiting l = 2 ^ 33 * (3 * l.n + 1) + 4

abbrev pub invariant-given_waiting-loop-k : goal.invariant-given_waiting-loop-k
invariant-given_waiting-loop-k l =
    IsSame l.fn.world l.world
    × (length l.evaluated ≡ length l.fn.evaluated)
    × (given_from l.env.unit.now (meaning_below l.env.unit.now l.n) l.arguments l.params l.evaluated l.k (seen l.world)
    ≡ meaning.given l.env.unit.now (meaning_below l.env.unit.now l.n) l.arguments l.params (seen l.fn.world))
