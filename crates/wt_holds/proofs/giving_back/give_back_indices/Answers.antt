use Rattle.std.proofs.Common.{◌≡◌, ℕ, ◌||◌, ◌==◌, Bool, true, false, List, get_or, map, take, refl, sym, ap, ◌∙◌}
use Rattle.wt_env.specs.declared.types.VMSharedTypeIndex.{VMSharedTypeIndex}
use Rattle.wt_model.specs.Indices.{is_used}
use Rattle.wt_indices.specs.Free.{is_free, is_free_before}
use Rattle.wt_keys.proofs.Filing.{at_among}
use Rattle.wt_holds.proofs.GivenBack.{different-before, used-more, or_assoc}
use Rattle.wt_holds.proofs.giving_back.give_back_indices.Goals as goal

swap : (a b c : Bool) → (a || (b || c)) ≡ (b || (a || c))
swap true true c = refl
swap true false c = refl
swap false true c = refl
swap false false c = refl

pub give_back-requires : goal.give_back-requires
give_back-requires c =
    let xs = c.args.indices.now in
    let n = c.loop-index.index-index in
    let d : VMSharedTypeIndex = record { 0 = 0 } in
    let x = get_or xs n d in
    record {
      used =
          c.loop-index.invariant x.0
          ∙ ap (λ b. b || is_free_before c.args.free.now x.0) (different-before xs n d c.requires.different c.loop-index-test.true)
          ∙ c.requires.used x (at_among xs n d c.loop-index-test.true);
    }

pub loop-index-preserved : goal.loop-index-preserved
loop-index-preserved c k =
    let xs = c.args.indices.now in
    let n = c.loop-index.index-index in
    let x = get_or xs n (record { 0 = 0 }) in
    ap (λ (taken : List ℕ). is_used taken k || is_free c.give_back.new.self k) c.give_back.ensures.taken
    ∙ ap (λ b. is_used c.loop-index.free.taken k || b) (c.give_back.ensures.free k)
    ∙ swap (is_used c.loop-index.free.taken k) (x.0 == k) (is_free c.loop-index.free k)
    ∙ ap (λ b. (x.0 == k) || b) (c.loop-index.invariant k)
    ∙ or_assoc (x.0 == k) (is_used (map (λ (i : VMSharedTypeIndex). i.0) (take n xs)) k) (is_free_before c.args.free.now k)
    ∙ ap (λ b. b || is_free_before c.args.free.now k) (sym (used-more xs n k (record { 0 = 0 }) c.loop-index-test.true))
