-- what is reached stays
use Rattle.std.proofs.Common.{◌≡◌, length}
use Rattle.wt_keys.specs.Entries.{made_by}
use Rattle.wt_model.specs.Removal.{is_root, is_reached, kept_standings}
use Rattle.wt_holds.specs.Counts.{standings_of}
use Rattle.wt_holds.specs.Kept.{AreRemoving}
use Rattle.wt_holds.specs.GivenBack.{AreSeparate, HasFree}
use Rattle.wt_holds.specs.Marks.{kept_entries}
use Rattle.wt_holds.proofs.removal.remove_pushed.Given as goal

abbrev pub invariant-loop-number : goal.invariant-loop-number
invariant-loop-number l = record {
  removing : AreRemoving l.groups l.groups.stack.items;
  entries : kept_entries (is_reached (made_by l.groups.entries) (is_root (standings_of l.groups.counts.items))) l.groups.entries
      ≡ kept_entries (is_reached (made_by l.fn.groups.entries) (is_root (standings_of l.fn.groups.counts.items))) l.fn.groups.entries;
  standings : kept_standings (is_reached (made_by l.groups.entries) (is_root (standings_of l.groups.counts.items))) (standings_of l.groups.counts.items)
      ≡ kept_standings (is_reached (made_by l.fn.groups.entries) (is_root (standings_of l.fn.groups.counts.items))) (standings_of l.fn.groups.counts.items);
  given : l.groups.given ≡ l.fn.groups.given;
  separate : AreSeparate l.groups.entries;
  free : HasFree (made_by l.groups.entries) l.free;
}

abbrev pub decreases-loop-number : goal.decreases-loop-number
decreases-loop-number l = length l.groups.entries
