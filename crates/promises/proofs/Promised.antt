-- Every demand, proved once over the word size: so of document 01's heap, and of the hand unit's.
use Rattle.std.proofs.Common.{ℕ}
use Rattle.words.specs.Width.{Width}
use Rattle.model.specs.Shape.{shape, wide, hand}
use Rattle.model.specs.Promises.{Promised}
use Rattle.model.proofs.Sizes.{eight, four}
use Rattle.model.proofs.lives.Payloads.{in_area, no_overlap, no_word_inside}
use Rattle.model.proofs.Good.{shape_good}
use Rattle.model.proofs.rules.Before.{sound_before, layout_before_lem}
use Rattle.model.proofs.rules.ResizeWays.{split_gives}
use Rattle.sound.proofs.OneLayout.{one_layout}
use Rattle.promises.proofs.Determined.{determined, reading_determined}
use Rattle.promises.proofs.Refused.{refused_untouched}
use Rattle.promises.proofs.Numbers.{answers_only, reading_answers_only}
use Rattle.promises.proofs.FoundLive.{found_is_live, look_up_shows, shown_within}
use Rattle.promises.proofs.Accepts.{accepts_exactly}
use Rattle.promises.proofs.StaysSound.{stays_sound}
use Rattle.promises.proofs.Opened.{opens_sound}
use Rattle.promises.proofs.Ends.{end_rises, end_stays, behind_untouched}
use Rattle.promises.proofs.AllocateKept.{allocate_keeps}
use Rattle.promises.proofs.FreeKept.{free_keeps}
use Rattle.promises.proofs.ResizeKept.{resize_keeps, each_way_keeps}
use Rattle.promises.proofs.AskedShown.{asked_shown}
use Rattle.promises.proofs.ClosedWait.{closed_wait}
use Rattle.promises.proofs.Places.{in_place_stays, move_moves}
use Rattle.promises.proofs.SweepKept.{sweep_keeps, swept_stays, sweep_counts}
use Rattle.promises.proofs.NoRoomExact.{no_room_exactly, smaller_kept}
use Rattle.promises.proofs.Longer.{longer_agrees, same_start_agrees, same_layout_agrees}
use Rattle.promises.proofs.Back.{everything_back}

pub promised : {w : ℕ} → Width w → Promised (shape w)
promised {w} wd =
    record {
      determined = determined (shape w);
      reading_determined = reading_determined (shape w);
      refused_untouched = refused_untouched wd;
      answers_only = answers_only wd;
      reading_answers_only = reading_answers_only (shape w);
      accepts_exactly = accepts_exactly wd;
      one_layout = one_layout wd;
      sound_before = sound_before (shape w) (shape_good wd);
      layout_before_lem = layout_before_lem (shape w) (shape_good wd);
      stays_sound = stays_sound wd;
      opens_sound = opens_sound wd;
      end_rises = end_rises wd;
      end_stays = end_stays wd;
      behind_untouched = behind_untouched wd;
      no_overlap = no_overlap (shape w);
      in_area = in_area (shape w);
      no_word_inside = no_word_inside (shape w);
      found_is_live = found_is_live wd;
      look_up_shows = look_up_shows wd;
      shown_within = shown_within wd;
      allocate_keeps = allocate_keeps wd;
      free_keeps = free_keeps wd;
      resize_keeps = resize_keeps wd;
      each_way_keeps = each_way_keeps wd;
      asked_shown = asked_shown wd;
      closed_wait = closed_wait wd;
      in_place_stays = in_place_stays wd;
      move_moves = move_moves wd;
      split_gives = split_gives wd;
      sweep_keeps = sweep_keeps wd;
      swept_stays = swept_stays wd;
      sweep_counts = sweep_counts wd;
      no_room_exactly = no_room_exactly wd;
      smaller_kept = smaller_kept wd;
      longer_agrees = longer_agrees wd;
      same_start_agrees = same_start_agrees wd;
      everything_back = everything_back wd;
      same_layout_agrees = same_layout_agrees wd;
    }

pub wide_promised : Promised wide
wide_promised = promised eight

pub hand_promised : Promised hand
hand_promised = promised four
