-- Document 01's starred figures and those of 02's requests as a table about the calls; the hand unit's, as another; and how much room an allocation needs.
use Rattle.std.specs.Prelude.{ℕ, ◌≤◌, ◌<◌, ◌≡◌, Bool, true, false, List, [], ◌∷◌, length}
use Rattle.words.specs.Word.{Bytes}
use Rattle.model.specs.Picture.{Word, Shows}
use Rattle.model.specs.Shape.{shape, end_of}
use Rattle.model.specs.Live.{◌∈◌}
use Rattle.model.specs.Refusals.{no_room, bad_end}
use Rattle.model.specs.Calls.{staying, moving, Outcome, refused, Opened, Initialises, Allocates}
use Rattle.model.specs.Promises.{Call, initialising, allocating, freeing, resizing, resizing_by, sweeping, Comes, Reply}

-- an answer: a refusal and an address; a word: a position and its value
abbrev pub says : ℕ → ℕ → Reply
says k a = record { refusal = k; address = a }

abbrev pub word : ℕ → ℕ → Word
word p v = record { at = p; is = v }

-- a figure: a buffer's length, where a heap is started in it, the calls after initialise, the answers from initialise's on, words of the heap then, and whether the last call is said to change nothing
pub record Figure : Type 0 where
  pub bytes : ℕ
  pub start : ℕ
  pub calls : List Call
  pub answers : List Reply
  pub words : List Word
  pub still : Bool

abbrev pub figure : ℕ → List Call → List Reply → List Word → Figure
figure n qs rs ws = record { bytes = n; start = end_of n; calls = qs; answers = rs; words = ws; still = false }

abbrev pub unchanged : ℕ → List Call → List Reply → List Word → Figure
unchanged n qs rs ws = record { bytes = n; start = end_of n; calls = qs; answers = rs; words = ws; still = true }

-- of a heap that is started at e
abbrev pub started : ℕ → Figure → Figure
started e f = record { bytes = f.bytes; start = e; calls = f.calls; answers = f.answers; words = f.words; still = f.still }

-- of document 01's heap: its list, and then the requests' figures
unfoldable pub table : List Figure
table =
    -- N 343: 1. N 344: a free block of 32 at 312; allocate 1: 6
    figure 343 [] (says 1 0 ∷ []) []
    ∷ figure 344 [] (says 0 0 ∷ []) (word 24 312 ∷ word 312 32 ∷ [])
    ∷ figure 344 (allocating 1 ∷ []) (says 0 0 ∷ says 6 0 ∷ []) []
    -- N 351: end 344
    ∷ figure 351 [] (says 0 0 ∷ []) (word 32 344 ∷ [])
    -- H: free block at 312, size 9,688
    ∷ figure 10000 [] (says 0 0 ∷ []) (word 24 312 ∷ word 312 9688 ∷ [])
    -- H, allocate 300: address 320, tag 322, rest at 632, size 9,368
    ∷ figure 10000 (allocating 300 ∷ []) (says 0 0 ∷ says 0 320 ∷ []) (word 312 322 ∷ word 24 632 ∷ word 632 9368 ∷ [])
    -- then allocate 16: page at 632, tag 4,123; address 648, header 2,055 (01: 7, before (iv)); class 1 head 616; second item's header 10,245; rest at 4,752, size 5,248
    ∷ figure 10000 (allocating 300 ∷ allocating 16 ∷ []) (says 0 0 ∷ says 0 320 ∷ says 0 648 ∷ [])
    (word 632 4123 ∷ word 640 2055 ∷ word 56 616 ∷ word 664 10245 ∷ word 24 4752 ∷ word 4752 5248 ∷ [])
    -- then free 320: first free 312, its next 4,752
    ∷ figure 10000 (allocating 300 ∷ allocating 16 ∷ freeing 320 ∷ []) (says 0 0 ∷ says 0 320 ∷ says 0 648 ∷ says 0 0 ∷ []) (word 24 312 ∷ word 320 4752 ∷ [])
    -- then (a) allocate 264: rest of 40 at 592; (b) instead 272: rest of 32 at 600; (c) instead 273: whole, tag 322; all at address 320
    ∷ figure 10000 (allocating 300 ∷ allocating 16 ∷ freeing 320 ∷ allocating 264 ∷ []) (says 0 0 ∷ says 0 320 ∷ says 0 648 ∷ says 0 0 ∷ says 0 320 ∷ []) (word 24 592 ∷ word 592 40 ∷ [])
    ∷ figure 10000 (allocating 300 ∷ allocating 16 ∷ freeing 320 ∷ allocating 272 ∷ []) (says 0 0 ∷ says 0 320 ∷ says 0 648 ∷ says 0 0 ∷ says 0 320 ∷ []) (word 24 600 ∷ word 600 32 ∷ [])
    ∷ figure 10000 (allocating 300 ∷ allocating 16 ∷ freeing 320 ∷ allocating 273 ∷ []) (says 0 0 ∷ says 0 320 ∷ says 0 648 ∷ says 0 0 ∷ says 0 320 ∷ []) (word 312 322 ∷ word 24 4752 ∷ [])
    -- after 16 above, free 648: header 9,861, head 592; free 648 again: 5
    ∷ figure 10000 (allocating 300 ∷ allocating 16 ∷ freeing 648 ∷ []) (says 0 0 ∷ says 0 320 ∷ says 0 648 ∷ says 0 0 ∷ []) (word 640 9861 ∷ word 56 592 ∷ [])
    ∷ figure 10000 (allocating 300 ∷ allocating 16 ∷ freeing 648 ∷ freeing 648 ∷ []) (says 0 0 ∷ says 0 320 ∷ says 0 648 ∷ says 0 0 ∷ says 5 0 ∷ []) (word 640 9861 ∷ word 56 592 ∷ [])
    -- allocate 256 needs N of 584 (01: 4,552, before (xi)), a block of 272; at 583: 6. Allocate 1 needs 4,440
    ∷ figure 584 (allocating 256 ∷ []) (says 0 0 ∷ says 0 320 ∷ []) (word 312 274 ∷ word 576 274 ∷ word 24 0 ∷ [])
    ∷ unchanged 583 (allocating 256 ∷ []) (says 0 0 ∷ says 6 0 ∷ []) (word 312 264 ∷ [])
    ∷ figure 4440 (allocating 1 ∷ []) (says 0 0 ∷ says 0 328 ∷ []) []
    ∷ figure 4439 (allocating 1 ∷ []) (says 0 0 ∷ says 6 0 ∷ []) []
    -- H, allocate 600, resize 320 to 570: nothing changes; to 568: free block at 896, size 9,104
    ∷ figure 10000 (allocating 600 ∷ []) (says 0 0 ∷ says 0 320 ∷ []) (word 312 618 ∷ word 24 928 ∷ word 928 9072 ∷ [])
    ∷ unchanged 10000 (allocating 600 ∷ resizing 320 570 ∷ []) (says 0 0 ∷ says 0 320 ∷ says 0 320 ∷ []) (word 312 618 ∷ word 24 928 ∷ word 928 9072 ∷ [])
    ∷ figure 10000 (allocating 600 ∷ resizing 320 568 ∷ []) (says 0 0 ∷ says 0 320 ∷ says 0 320 ∷ []) (word 24 896 ∷ word 896 9104 ∷ [])
    -- H, allocate 600, resize 320 to 700: stays at 320, rest at 1,032, size 8,968
    ∷ figure 10000 (allocating 600 ∷ resizing 320 700 ∷ []) (says 0 0 ∷ says 0 320 ∷ says 0 320 ∷ []) (word 24 1032 ∷ word 1032 8968 ∷ [])
    -- (i) N 1,000, allocate 300, resize 320 to 20: there is no room for a page, so nothing changes; to 900: 6
    ∷ unchanged 1000 (allocating 300 ∷ resizing 320 20 ∷ []) (says 0 0 ∷ says 0 320 ∷ says 0 320 ∷ []) (word 312 322 ∷ word 24 632 ∷ word 632 368 ∷ [])
    ∷ unchanged 1000 (allocating 300 ∷ resizing 320 900 ∷ []) (says 0 0 ∷ says 0 320 ∷ says 6 0 ∷ []) (word 312 322 ∷ word 24 632 ∷ word 632 368 ∷ [])
    -- (vii) H, allocate 16: address 328, header 2,055; class 1 head 296, the second item. In place to 9: header 1,159; to 17: 6
    ∷ figure 10000 (allocating 16 ∷ resizing_by staying 328 9 ∷ []) (says 0 0 ∷ says 0 328 ∷ says 0 328 ∷ []) (word 320 1159 ∷ word 56 296 ∷ word 344 5125 ∷ [])
    ∷ unchanged 10000 (allocating 16 ∷ resizing_by staying 328 17 ∷ []) (says 0 0 ∷ says 0 328 ∷ says 6 0 ∷ []) (word 320 2055 ∷ word 56 296 ∷ word 344 5125 ∷ [])
    -- instead move 328 to 16: the same class moves too, to address 352, header 2,055; class 1 head 272, the first item, its header 5,125
    ∷ figure 10000 (allocating 16 ∷ resizing_by moving 328 16 ∷ []) (says 0 0 ∷ says 0 328 ∷ says 0 352 ∷ []) (word 344 2055 ∷ word 56 272 ∷ word 320 5125 ∷ [])
    -- N 1,000, allocate 300, in place 320 to 20: 6, though resize keeps it; move 320 to 20: 6
    ∷ unchanged 1000 (allocating 300 ∷ resizing_by staying 320 20 ∷ []) (says 0 0 ∷ says 0 320 ∷ says 6 0 ∷ []) (word 312 322 ∷ word 24 632 ∷ word 632 368 ∷ [])
    ∷ unchanged 1000 (allocating 300 ∷ resizing_by moving 320 20 ∷ []) (says 0 0 ∷ says 0 320 ∷ says 6 0 ∷ []) (word 312 322 ∷ word 24 632 ∷ word 632 368 ∷ [])
    -- (iv) H, allocate 300 and 16, then 13: address 672, header 1,671; in place to 13 again: nothing changes
    ∷ figure 10000 (allocating 300 ∷ allocating 16 ∷ allocating 13 ∷ []) (says 0 0 ∷ says 0 320 ∷ says 0 648 ∷ says 0 672 ∷ []) (word 664 1671 ∷ word 640 2055 ∷ [])
    ∷ unchanged 10000 (allocating 300 ∷ allocating 16 ∷ allocating 13 ∷ resizing_by staying 672 13 ∷ []) (says 0 0 ∷ says 0 320 ∷ says 0 648 ∷ says 0 672 ∷ says 0 672 ∷ []) (word 664 1671 ∷ [])
    -- N 4,800, allocate 30, resize 328 to 5: there is no room for another page, so the record is kept, and its header
    ∷ unchanged 4800 (allocating 30 ∷ resizing 328 5 ∷ []) (says 0 0 ∷ says 0 328 ∷ says 0 328 ∷ []) (word 320 3855 ∷ [])
    -- (ii) H, allocate 300 and 16, free 648, sweep: 1, the page is in the free block at 632, size 9,368, and class 1 has no item
    ∷ figure 10000 (allocating 300 ∷ allocating 16 ∷ freeing 648 ∷ sweeping ∷ []) (says 0 0 ∷ says 0 320 ∷ says 0 648 ∷ says 0 0 ∷ says 0 1 ∷ []) (word 24 632 ∷ word 632 9368 ∷ word 56 0 ∷ [])
    -- H, allocate 16 three times, free 328 and 352: class 1 head 296, the last that was freed. Sweep: 0, and items rise: head 272, its header 4,741, the next one's 5,509
    ∷ figure 10000 (allocating 16 ∷ allocating 16 ∷ allocating 16 ∷ freeing 328 ∷ freeing 352 ∷ []) (says 0 0 ∷ says 0 328 ∷ says 0 352 ∷ says 0 376 ∷ says 0 0 ∷ says 0 0 ∷ []) (word 56 296 ∷ [])
    ∷ figure 10000 (allocating 16 ∷ allocating 16 ∷ allocating 16 ∷ freeing 328 ∷ freeing 352 ∷ sweeping ∷ []) (says 0 0 ∷ says 0 328 ∷ says 0 352 ∷ says 0 376 ∷ says 0 0 ∷ says 0 0 ∷ says 0 0 ∷ [])
    (word 56 272 ∷ word 320 4741 ∷ word 344 5509 ∷ [])
    -- (xi) H, allocate 129: a block of 152; then 128: a page of class 15 at 464, tag 4,235; address 480, header 16,447
    ∷ figure 10000 (allocating 129 ∷ allocating 128 ∷ []) (says 0 0 ∷ says 0 320 ∷ says 0 480 ∷ []) (word 312 154 ∷ word 464 4235 ∷ word 472 16447 ∷ [])
    -- H, allocate 256, in place to 129: tag 154, free block at 464, size 9,536; then to 200: tag 218, free block at 528; to 128 instead: 6
    ∷ figure 10000 (allocating 256 ∷ resizing_by staying 320 129 ∷ []) (says 0 0 ∷ says 0 320 ∷ says 0 320 ∷ []) (word 312 154 ∷ word 24 464 ∷ word 464 9536 ∷ [])
    ∷ figure 10000 (allocating 256 ∷ resizing_by staying 320 129 ∷ resizing 320 200 ∷ []) (says 0 0 ∷ says 0 320 ∷ says 0 320 ∷ says 0 320 ∷ []) (word 312 218 ∷ word 24 528 ∷ word 528 9472 ∷ [])
    ∷ unchanged 10000 (allocating 256 ∷ resizing_by staying 320 128 ∷ []) (says 0 0 ∷ says 0 320 ∷ says 6 0 ∷ []) (word 312 274 ∷ [])
    -- (v) N 10,000, started at 344: end 344, a free block of 32 at 312
    ∷ started 344 (figure 10000 [] (says 0 0 ∷ []) (word 32 344 ∷ word 24 312 ∷ word 312 32 ∷ []))
    -- allocate 300: address 320, the free block enlarged to 320, end 632, and no free block; then 16: a page of 4,120 at 632, address 648, end 4,752
    ∷ started 344 (figure 10000 (allocating 300 ∷ []) (says 0 0 ∷ says 0 320 ∷ []) (word 32 632 ∷ word 24 0 ∷ word 312 322 ∷ []))
    ∷ started 344 (figure 10000 (allocating 300 ∷ allocating 16 ∷ []) (says 0 0 ∷ says 0 320 ∷ says 0 648 ∷ []) (word 32 4752 ∷ word 24 0 ∷ word 632 4123 ∷ word 640 2055 ∷ []))
    -- then resize 320 to 400: it moves to 4,760, end 5,168, and 312 is free; in place to 400 instead: 6, the end stays
    ∷ started 344 (figure 10000 (allocating 300 ∷ allocating 16 ∷ resizing 320 400 ∷ []) (says 0 0 ∷ says 0 320 ∷ says 0 648 ∷ says 0 4760 ∷ []) (word 32 5168 ∷ word 24 312 ∷ word 312 320 ∷ word 4752 418 ∷ []))
    ∷ started 344 (unchanged 10000 (allocating 300 ∷ allocating 16 ∷ resizing_by staying 320 400 ∷ []) (says 0 0 ∷ says 0 320 ∷ says 0 648 ∷ says 6 0 ∷ []) (word 32 4752 ∷ []))
    -- N 1,000, started at 344: allocate 672: address 320, end 1,000; then 257: 6; 673 instead: 6, and the end stays
    ∷ started 344 (figure 1000 (allocating 672 ∷ []) (says 0 0 ∷ says 0 320 ∷ []) (word 32 1000 ∷ word 24 0 ∷ word 312 690 ∷ []))
    ∷ started 344 (unchanged 1000 (allocating 672 ∷ allocating 257 ∷ []) (says 0 0 ∷ says 0 320 ∷ says 6 0 ∷ []) (word 32 1000 ∷ []))
    ∷ started 344 (unchanged 1000 (allocating 673 ∷ []) (says 0 0 ∷ says 6 0 ∷ []) (word 32 344 ∷ []))
    -- N 1,000, started at 632, allocate 300, then 129: a block of 152 is added behind the one in use, end 784; free 320, then 400: 312 is too small, so one of 416 would pass 1,000: 6
    ∷ started 632 (figure 1000 (allocating 300 ∷ allocating 129 ∷ []) (says 0 0 ∷ says 0 320 ∷ says 0 640 ∷ []) (word 32 784 ∷ word 632 154 ∷ word 24 0 ∷ []))
    ∷ started 632 (unchanged 1000 (allocating 300 ∷ allocating 129 ∷ freeing 320 ∷ allocating 400 ∷ []) (says 0 0 ∷ says 0 320 ∷ says 0 640 ∷ says 0 0 ∷ says 6 0 ∷ []) (word 32 784 ∷ word 24 312 ∷ []))
    ∷ []

-- of the hand unit's heap (viii)
unfoldable pub hand_table : List Figure
hand_table =
    -- N 111: 1. N 112: words 96, 28, 96, 112, 75, 75, and a free block of 16; allocate 1: 6
    figure 111 [] (says 1 0 ∷ []) []
    ∷ figure 112 [] (says 0 0 ∷ []) (word 8 96 ∷ word 12 28 ∷ word 16 96 ∷ word 20 112 ∷ word 24 75 ∷ word 92 75 ∷ word 96 16 ∷ [])
    ∷ unchanged 112 (allocating 1 ∷ []) (says 0 0 ∷ says 6 0 ∷ []) []
    -- N 119: end 112
    ∷ figure 119 [] (says 0 0 ∷ []) (word 20 112 ∷ [])
    -- N 128, allocate 1: address 104, tag 35, header 131, head 84, second header 1; then 8: address 116; then 8: 6
    ∷ figure 128 (allocating 1 ∷ []) (says 0 0 ∷ says 0 104 ∷ []) (word 96 35 ∷ word 124 35 ∷ word 100 131 ∷ word 28 84 ∷ word 112 1 ∷ word 16 0 ∷ [])
    ∷ figure 128 (allocating 1 ∷ allocating 8 ∷ []) (says 0 0 ∷ says 0 104 ∷ says 0 116 ∷ []) (word 112 1027 ∷ word 28 0 ∷ [])
    ∷ unchanged 128 (allocating 1 ∷ allocating 8 ∷ allocating 8 ∷ []) (says 0 0 ∷ says 0 104 ∷ says 0 116 ∷ says 6 0 ∷ []) []
    -- instead free 116 and 104: header 1,345, head 72; the offset 84 that it names is a multiple of 4, not of 8; free 104 again: 5
    ∷ figure 128 (allocating 1 ∷ allocating 8 ∷ freeing 116 ∷ freeing 104 ∷ []) (says 0 0 ∷ says 0 104 ∷ says 0 116 ∷ says 0 0 ∷ says 0 0 ∷ []) (word 100 1345 ∷ word 28 72 ∷ word 112 1 ∷ [])
    ∷ unchanged 128 (allocating 1 ∷ allocating 8 ∷ freeing 116 ∷ freeing 104 ∷ freeing 104 ∷ []) (says 0 0 ∷ says 0 104 ∷ says 0 116 ∷ says 0 0 ∷ says 0 0 ∷ says 5 0 ∷ []) []
    -- then sweep: 1, and one free block of 32 at 96
    ∷ figure 128 (allocating 1 ∷ allocating 8 ∷ freeing 116 ∷ freeing 104 ∷ sweeping ∷ []) (says 0 0 ∷ says 0 104 ∷ says 0 116 ∷ says 0 0 ∷ says 0 0 ∷ says 0 1 ∷ []) (word 16 96 ∷ word 96 32 ∷ word 28 0 ∷ [])
    -- N 128, allocate 5: header 643; in place to 8: header 1,027; move to 8 instead: address 116, and the first item, free again, heads its list
    ∷ figure 128 (allocating 5 ∷ []) (says 0 0 ∷ says 0 104 ∷ []) (word 100 643 ∷ [])
    ∷ figure 128 (allocating 5 ∷ resizing_by staying 104 8 ∷ []) (says 0 0 ∷ says 0 104 ∷ says 0 104 ∷ []) (word 100 1027 ∷ word 28 84 ∷ [])
    ∷ figure 128 (allocating 5 ∷ resizing_by moving 104 8 ∷ []) (says 0 0 ∷ says 0 104 ∷ says 0 116 ∷ []) (word 100 1 ∷ word 112 1027 ∷ word 28 72 ∷ [])
    -- N 1,000, allocate 129: address 100, tag 146, rest at 240, size 760; allocate 65,537: 4
    ∷ figure 1000 (allocating 129 ∷ []) (says 0 0 ∷ says 0 100 ∷ []) (word 96 146 ∷ word 16 240 ∷ word 240 760 ∷ [])
    ∷ unchanged 1000 (allocating 65537 ∷ []) (says 0 0 ∷ says 4 0 ∷ []) []
    -- allocate 152 and 129, free 100, then (a) allocate 136: rest of 16 at 240; (b) instead 137: 8 would remain, so whole, tag 162; both at address 100
    ∷ figure 1000 (allocating 152 ∷ allocating 129 ∷ freeing 100 ∷ allocating 136 ∷ []) (says 0 0 ∷ says 0 100 ∷ says 0 260 ∷ says 0 0 ∷ says 0 100 ∷ []) (word 96 146 ∷ word 16 240 ∷ word 240 16 ∷ [])
    ∷ figure 1000 (allocating 152 ∷ allocating 129 ∷ freeing 100 ∷ allocating 137 ∷ []) (says 0 0 ∷ says 0 100 ∷ says 0 260 ∷ says 0 0 ∷ says 0 100 ∷ []) (word 96 162 ∷ word 16 400 ∷ [])
    -- allocate 200, resize 100 to 190: nothing changes; to 184: free block at 288, size 712; to 250: rest at 360, size 640
    ∷ unchanged 1000 (allocating 200 ∷ resizing 100 190 ∷ []) (says 0 0 ∷ says 0 100 ∷ says 0 100 ∷ []) (word 96 210 ∷ word 16 304 ∷ [])
    ∷ figure 1000 (allocating 200 ∷ resizing 100 184 ∷ []) (says 0 0 ∷ says 0 100 ∷ says 0 100 ∷ []) (word 16 288 ∷ word 288 712 ∷ [])
    ∷ figure 1000 (allocating 200 ∷ resizing 100 250 ∷ []) (says 0 0 ∷ says 0 100 ∷ says 0 100 ∷ []) (word 16 360 ∷ word 360 640 ∷ [])
    -- N 300, allocate 129, resize 100 to 20: there is no room for a page, so nothing changes; to 200: 6
    ∷ unchanged 300 (allocating 129 ∷ resizing 100 20 ∷ []) (says 0 0 ∷ says 0 100 ∷ says 0 100 ∷ []) (word 96 146 ∷ word 16 240 ∷ word 240 56 ∷ [])
    ∷ unchanged 300 (allocating 129 ∷ resizing 100 200 ∷ []) (says 0 0 ∷ says 0 100 ∷ says 6 0 ∷ []) (word 96 146 ∷ word 16 240 ∷ word 240 56 ∷ [])
    ∷ []

-- the bytes after some outcomes, and before the last of them; and what was answered
unfoldable pub heap_then : List ℕ → List Outcome → List ℕ
heap_then b [] = b
heap_then b (r ∷ rs) = heap_then r.heap rs

unfoldable pub heap_before : List ℕ → List Outcome → List ℕ
heap_before b [] = b
heap_before b (r ∷ []) = b
heap_before b (r ∷ t ∷ rs) = heap_before r.heap (t ∷ rs)

unfoldable pub answered : List Outcome → List Reply
answered [] = []
answered (r ∷ rs) = says r.refusal r.address ∷ answered rs

-- of a heap with words of w bytes
module _ (w : ℕ) where
  -- outcomes that the calls' contracts allow, one after the other, from bytes b on
  unfoldable pub Outcomes : List ℕ → List Call → List Outcome → Type 0
  Outcomes b [] [] = Unit {0}
  Outcomes b [] (r ∷ rs) = ⊥
  Outcomes b (q ∷ qs) [] = ⊥
  Outcomes b (q ∷ qs) (r ∷ rs) = Comes (shape w) b q r × Outcomes r.heap qs rs

  -- a figure holds of the calls: for any bytes of its length that are not yet a heap, and any outcomes of its calls
  abbrev pub OnBytes : Figure → Type 0
  OnBytes f =
      (b : List ℕ) → length b ≡ f.bytes → (Opened (shape w) b → ⊥) → (rs : List Outcome) → Outcomes b (initialising f.start ∷ f.calls) rs
      → (answered rs ≡ f.answers) × Shows w (heap_then b rs) f.words × (f.still ≡ true → Bytes b → heap_then b rs ≡ heap_before b rs)

  -- starting ends at which no heap of N bytes may be: initialise answers 8
  abbrev pub BadEnds : ℕ → List ℕ → Type 0
  BadEnds N es = (e : ℕ) → e ∈ es → (b : List ℕ) (r : Outcome) → length b ≡ N → (Opened (shape w) b → ⊥) → Initialises (shape w) b e r → r ≡ refused b bad_end

  -- allocate n needs a heap of N bytes: on every fresh heap that ends with its buffer and is shorter it answers 6, and on every other it is granted
  abbrev pub Needs : ℕ → ℕ → Type 0
  Needs n N =
      (b : List ℕ) (r o : Outcome) → Initialises (shape w) b (end_of (length b)) r → r.refusal ≡ 0 → Allocates (shape w) r.heap n o
      → (length b < N → o.refusal ≡ no_room) × (N ≤ length b → o.refusal ≡ 0)
