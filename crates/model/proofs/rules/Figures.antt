-- Document 01's figures and those of 02's requests, computed from the definitions: one table, one statement. At 8 bytes a word only, as the figures are.
use Rattle.std.proofs.Common.{ℕ, zero, suc, ◌+◌, ◌*◌, ◌≤◌, ◌<◌, div-add-mod', mod-lt, arith, ◌≡◌, refl, cond, List, [], ◌∷◌, eqb}
use Rattle.model.specs.Picture.{Word}
use Rattle.model.specs.Shape.{wide, all_offered, start, least_free, item_size, end_of}
use Rattle.model.proofs.Sizes.{eight, page_items_bound}
use Rattle.model.specs.Layout.{Layout, head_of, next_of, use_size, size_of, ends, end_in, first_free, header, slot_words, use_words, own, block_words, head_words, fixed_low, fixed_high, words}
use Rattle.model.specs.Sound.{idle_slots, idle_in}
use Rattle.model.specs.Rules.{fit, before, in_front, extended, cut, slot_to, use_to, item_to, from_list, from_page, an_item, a_block, allocate, growth, in_slots, find_from, find, freed, shown_of, shrunk, grown, reshaped, renewed, stays, fresh}
use Rattle.model.specs.Reading.{total, greatest, held_in, of_block, counted}
use Rattle.model.specs.Sweeping.{empty_page, idle_with, relinked, relinked_from}
use Rattle.model.specs.Calls.{staying, moving}
use Rattle.model.specs.Promises.{Call, allocating, freeing, resizing, resizing_by, sweeping}
use Rattle.model.proofs.rules.OnLayouts.{resized_on, resized_by_on, recovered, doing}

-- the value of a picture's word at a position; 9,999,999 where it names none
word_in : ℕ → List Word → ℕ
word_in p [] = 9999999
word_in p (x ∷ xs) = let later = word_in p xs in cond (eqb p x.at) x.is later

-- the same, of a layout of a heap of 10,000 bytes
word : ℕ → Layout → ℕ
word p L = word_in p (words wide 10000 L)

-- what a call gives, what it refuses with, and the layout then; of a heap that ends with its buffer, and of one that may grow up to E
gives : Call → Layout → ℕ
gives q L = (doing wide (end_in wide L) q L).address

says : Call → Layout → ℕ
says q L = (doing wide (end_in wide L) q L).refusal

after : Call → Layout → Layout
after q L = (doing wide (end_in wide L) q L).layout

gives_in : ℕ → Call → Layout → ℕ
gives_in E q L = (doing wide E q L).address

says_in : ℕ → Call → Layout → ℕ
says_in E q L = (doing wide E q L).refusal

after_in : ℕ → Call → Layout → Layout
after_in E q L = (doing wide E q L).layout

-- a fresh heap of n bytes, and that of 10,000 after the calls of the list of figures
fresh_of : ℕ → Layout
fresh_of n = fresh wide (end_of n)

H : Layout
H = fresh_of 10000

A : Layout
A = after (allocating 300) H

B : Layout
B = after (allocating 16) A

C : Layout
C = after (freeing 320) B

D : Layout
D = after (freeing 648) B

R : Layout
R = after (allocating 600) H

P : Layout
P = after (allocating 16) H

-- (iv): with a remark of 13 bytes; B as the rule before left it, with a padding of 0; and a record of 30 on a heap that has no room for another page
E : Layout
E = after (allocating 13) B

O : Layout
O = renewed wide 0 592 B

K : Layout
K = after (allocating 30) (fresh_of 4800)

-- (ii), (xi): n calls one after the other by the rule before, each from a number that is `by` more than the one before; two pages of a class that is closed now, with 1 and 2 live; and the same with none live in the first
in_turn : ℕ → (ℕ → Call) → ℕ → ℕ → Layout → Layout
in_turn zero q a by L = L
in_turn (suc n) q a by L = in_turn n q (a + by) by (doing (all_offered wide) (end_in wide L) (q a) L).layout

Q : Layout
Q = in_turn 15 freeing 328 264 (in_turn 18 allocating 256 0 H)

Z : Layout
Z = after (freeing 4288) (after sweeping Q)

-- (v): from 344 in 10,000 bytes, after 300, 16 and a resize to 400; and from 344 in 1,000 after 672
S1 : Layout
S1 = after_in 10000 (allocating 300) (fresh_of 344)

S2 : Layout
S2 = after_in 10000 (allocating 16) S1

S3 : Layout
S3 = after_in 10000 (resizing 320 400) S2

T1 : Layout
T1 = after_in 1000 (allocating 672) (fresh_of 344)

-- how many bytes a look-up shows
shown : ℕ → Layout → ℕ
shown a L = shown_of wide (find wide a L)

computed : List ℕ
computed =
    (start wide + least_free wide) ∷ word 312 (fresh_of 344) ∷ says (allocating 1) (fresh_of 344) ∷ end_of 351
    ∷ word 24 H ∷ word 312 H
    ∷ gives (allocating 300) H ∷ word 312 A ∷ word 24 A ∷ word 632 A
    ∷ gives (allocating 16) A ∷ word 632 B ∷ word 640 B ∷ word 56 B ∷ word 664 B ∷ word 24 B ∷ word 4752 B
    ∷ word 24 C ∷ word 320 C
    ∷ gives (allocating 264) C ∷ word 592 (after (allocating 264) C)
    ∷ gives (allocating 272) C ∷ word 600 (after (allocating 272) C)
    ∷ gives (allocating 273) C ∷ word 312 (after (allocating 273) C)
    ∷ word 640 D ∷ word 56 D ∷ says (freeing 648) D
    ∷ gives (allocating 256) (fresh_of 584) ∷ word 312 (after (allocating 256) (fresh_of 584)) ∷ says (allocating 256) (fresh_of 583) ∷ says (allocating 1) (fresh_of 4440) ∷ says (allocating 1) (fresh_of 4439)
    ∷ gives (resizing 320 570) R ∷ word 312 (after (resizing 320 570) R) ∷ word 24 (after (resizing 320 570) R) ∷ word 928 (after (resizing 320 570) R)
    ∷ gives (resizing 320 568) R ∷ word 24 (after (resizing 320 568) R) ∷ word 896 (after (resizing 320 568) R)
    ∷ gives (resizing 320 700) R ∷ word 24 (after (resizing 320 700) R) ∷ word 1032 (after (resizing 320 700) R)
    ∷ word 312 (after (allocating 257) H) ∷ word 312 (after (allocating 129) H) ∷ gives (allocating 128) (after (allocating 129) H) ∷ word 464 (after (allocating 128) (after (allocating 129) H)) ∷ says (freeing 48) P ∷ says (freeing 320) P
    ∷ gives (allocating 13) B ∷ shown 672 E ∷ word 664 E ∷ shown 672 (after (resizing_by staying 672 9) E) ∷ word 664 (after (resizing_by staying 672 9) E)
    ∷ gives (resizing_by moving 672 15) E ∷ shown 696 (after (resizing_by moving 672 15) E)
    ∷ shown 648 O ∷ word 640 O ∷ shown 648 (after (resizing_by staying 648 16) O) ∷ word 640 (after (resizing_by staying 648 16) O)
    ∷ gives (resizing 328 5) K ∷ shown 328 (after (resizing 328 5) K) ∷ shown 320 A
    ∷ gives sweeping D ∷ word 24 (after sweeping D) ∷ word 632 (after sweeping D) ∷ word 56 (after sweeping D) ∷ gives sweeping (after sweeping D)
    ∷ word 296 Q ∷ gives (allocating 256) Q ∷ word 296 (after (allocating 256) Q) ∷ gives sweeping Q ∷ word 296 (after sweeping Q)
    ∷ gives (resizing_by staying 4288 250) Q ∷ shown 4288 (after (resizing_by staying 4288 250) Q) ∷ gives (resizing_by moving 4288 256) Q ∷ shown 8800 (after (resizing_by moving 4288 256) Q) ∷ word 296 (after (resizing_by moving 4288 256) Q) ∷ word 296 (after (freeing 4288) Q)
    ∷ gives sweeping Z ∷ word 24 (after sweeping Z) ∷ word 312 (after sweeping Z) ∷ gives sweeping (after sweeping Z)
    ∷ gives_in 10000 (allocating 300) (fresh_of 344) ∷ end_in wide S1 ∷ word 24 S1 ∷ gives_in 10000 (allocating 16) S1 ∷ end_in wide S2 ∷ gives_in 10000 (resizing 320 400) S2 ∷ end_in wide S3
    ∷ gives_in 1000 (allocating 672) (fresh_of 344) ∷ end_in wide T1 ∷ says_in 1000 (allocating 257) T1 ∷ says_in 1000 (allocating 673) (fresh_of 344)
    ∷ says_in 10000 (resizing_by staying 320 400) S1
    ∷ (counted C.blocks).free_bytes ∷ (counted C.blocks).free_blocks ∷ (counted C.blocks).largest_free ∷ (counted C.blocks).variables ∷ (counted C.blocks).pages ∷ (counted C.blocks).items
    ∷ []

expected : List ℕ
expected =
    344 ∷ 32 ∷ 6 ∷ 344
    ∷ 312 ∷ 9688
    ∷ 320 ∷ 322 ∷ 632 ∷ 9368
    ∷ 648 ∷ 4123 ∷ 2055 ∷ 616 ∷ 10245 ∷ 4752 ∷ 5248
    ∷ 312 ∷ 4752
    ∷ 320 ∷ 40
    ∷ 320 ∷ 32
    ∷ 320 ∷ 322
    ∷ 9861 ∷ 592 ∷ 5
    ∷ 320 ∷ 274 ∷ 6 ∷ 0 ∷ 6
    ∷ 320 ∷ 618 ∷ 928 ∷ 9072
    ∷ 320 ∷ 896 ∷ 9104
    ∷ 320 ∷ 1032 ∷ 8968
    ∷ 282 ∷ 154 ∷ 480 ∷ 4235 ∷ 5 ∷ 5
    ∷ 672 ∷ 13 ∷ 1671 ∷ 9 ∷ 1159
    ∷ 696 ∷ 15
    ∷ 16 ∷ 7 ∷ 16 ∷ 2055
    ∷ 328 ∷ 30 ∷ 304
    ∷ 1 ∷ 632 ∷ 9368 ∷ 0 ∷ 0
    ∷ 3968 ∷ 8800 ∷ 3968 ∷ 0 ∷ 5040
    ∷ 4288 ∷ 250 ∷ 8800 ∷ 256 ∷ 4232 ∷ 4232
    ∷ 1 ∷ 312 ∷ 4240 ∷ 0
    ∷ 320 ∷ 632 ∷ 0 ∷ 648 ∷ 4752 ∷ 4760 ∷ 5168
    ∷ 320 ∷ 1000 ∷ 6 ∷ 6
    ∷ 6
    ∷ 5568 ∷ 2 ∷ 5248 ∷ 0 ∷ 1 ∷ 1
    ∷ []

figures : computed ≡ expected
unfolding computed expected word_in word gives says after shown fresh_of gives_in says_in after_in S1 S2 S3 T1 in_turn H A B C D E K O R P Q Z extended growth empty_page idle_in idle_with relinked relinked_from recovered resized_on resized_by_on doing head_of next_of use_size size_of ends first_free header slot_words use_words own block_words head_words fixed_low fixed_high words idle_slots fit before in_front cut slot_to use_to item_to from_list from_page an_item a_block allocate in_slots find_from freed shrunk grown reshaped stays total greatest held_in of_block counted
figures = refl

-- a page's items take more than 4,096 and at most 4,360 bytes
pub page_takes_lem : (c : ℕ) → c < wide.classes → (4096 < wide.per_page c * item_size wide c) × (wide.per_page c * item_size wide c ≤ 4360)
page_takes_lem c h = (omega (arith, div-add-mod' 4096 (8 * c + 16), mod-lt 4096 {m = 8 * c + 16} (omega arith)), page_items_bound eight c h)
