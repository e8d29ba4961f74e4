use Rattle.std.proofs.Common.{◌≡◌, ◌++◌, ◌∷◌, [], ℕ, List, length, get_or, rules, sym, ◌∙◌, ap, arith, append_assoc}
use Rattle.tuples.specs.Chain.{no_entry}
use Rattle.tuples.specs.Write.{tuple_bytes}
use Rattle.tuples.proofs.Writing.{turn}
use Rattle.tuples.proofs.write.tuple_bytes.Goals as goal

-- a code, a link and a body put after other bytes
after_those : (p q r z body : List ℕ) (c n : ℕ) → q ≡ p ++ (c ∷ []) → r ≡ q ++ (n ∷ []) → z ≡ r ++ body → z ≡ p ++ (c ∷ (n ∷ body))
after_those p q r z body c n code link rest =
    rest ∙ ap (λ l. l ++ body) (link ∙ ap (λ l. l ++ (n ∷ [])) code) ∙ append_assoc (p ++ (c ∷ [])) (n ∷ []) body ∙ append_assoc p (c ∷ []) (n ∷ body)

pub loop-entry-init : goal.loop-entry-init
unfolding tuple_bytes
loop-entry-init c = search rules

pub push-requires : goal.push-requires
push-requires c =
    let l = c.loop-entry in
    let t = turn c.args.bodies.now c.args.list.now l.entry-index c.requires.good (omega arith) in
    let i = ap length l.invariant in
    search rules

pub overflow_cast-entry : goal.overflow_cast-entry
overflow_cast-entry c =
    let l = c.loop-entry in
    let t = turn c.args.bodies.now c.args.list.now l.entry-index c.requires.good (omega arith) in
    search rules

pub push-requires-in-loop-entry : goal.push-requires-in-loop-entry
push-requires-in-loop-entry c =
    let l = c.loop-entry in
    let t = turn c.args.bodies.now c.args.list.now l.entry-index c.requires.good (omega arith) in
    let i = ap length l.invariant in
    let p = c.push.ensures.len in
    search rules

pub body-requires : goal.body-requires
body-requires c =
    let l = c.loop-entry in
    (turn c.args.bodies.now c.args.list.now l.entry-index c.requires.good (omega arith)).inside

pub unwrap-requires : goal.unwrap-requires
unwrap-requires c =
    let l = c.loop-entry in
    let t = turn c.args.bodies.now c.args.list.now l.entry-index c.requires.good (omega arith) in
    c.try_extend_from_slice.ensures.variant.1 (omega (arith, ap length l.invariant, c.push.ensures.len, c.push-in-loop-entry.ensures.len, ap length c.body.ensures))

pub loop-entry-preserved : goal.loop-entry-preserved
loop-entry-preserved c =
    let l = c.loop-entry in
    let bs = c.args.bodies.now in
    let e = get_or c.args.list.now l.entry-index no_entry in
    let t = turn bs c.args.list.now l.entry-index c.requires.good (omega arith) in
    let ok = rw c.unwrap.ensures at c.try_extend_from_slice.ensures.ok in
    after_those _ _ _ _ _ e.code e.length (c.push.ensures.items ∙ ap (λ l. l ++ (e.code ∷ [])) l.invariant) c.push-in-loop-entry.ensures.items (ok ∙ ap (λ b. c.push-in-loop-entry.new.self.items ++ b) c.body.ensures) ∙ sym t.more
