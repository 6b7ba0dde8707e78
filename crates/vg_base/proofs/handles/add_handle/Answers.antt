use Rattle.std.proofs.Common.{◌≡◌, ◌++◌, ◌∷◌, [], length, rules, arith}
use Rattle.vg_base.proofs.HandleLists.{opened-past, opened-push, opened-push_other, open_handles-push}
use Rattle.vg_base.proofs.handles.add_handle.Goals as goal

pub returns-then-is_ok-clause-was : goal.returns-then-is_ok-clause-was
returns-then-is_ok-clause-was g c =
    let len : c.len-id.result ≡ length c.args.handles.now.items = omega (arith, c.len-id.ensures) in
    rw len (opened-past c.args.handles.now.items)

pub returns-then-is_ok-clause-now : goal.returns-then-is_ok-clause-now
returns-then-is_ok-clause-now g c =
    let len : c.len-id.result ≡ length c.args.handles.now.items = omega (arith, c.len-id.ensures) in
    let pushed : c.push.new.self.items ≡ c.args.handles.now.items ++ c.args.handle ∷ [] = search rules in
    rw (pushed, len) (opened-push c.args.handles.now.items c.args.handle)

pub returns-then-is_ok-clause-others : goal.returns-then-is_ok-clause-others
returns-then-is_ok-clause-others g c =
    let len : c.len-id.result ≡ length c.args.handles.now.items = omega (arith, c.len-id.ensures) in
    let pushed : c.push.new.self.items ≡ c.args.handles.now.items ++ c.args.handle ∷ [] = search rules in
    λ j ne. rw pushed (opened-push_other c.args.handles.now.items c.args.handle j (rw len at ne))

pub returns-then-is_ok-clause-count : goal.returns-then-is_ok-clause-count
returns-then-is_ok-clause-count g c =
    let pushed : c.push.new.self.items ≡ c.args.handles.now.items ++ c.args.handle ∷ [] = search rules in
    rw pushed (open_handles-push c.args.handles.now.items c.args.handle)
