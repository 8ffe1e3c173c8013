-- A data item or a maximum that is mended keeps its outline, and its bytes still spell it.
use Rattle.std.proofs.Common.{◌≡◌, ℕ, ◌+◌, ◌<◌, List, [], ◌∷◌, length, option_map, Option}
use Rattle.std.proofs.Common.{Some, Result, Ok, Err, refl, sym, ap, ◌∙◌, arith}
use Rattle.std.proofs.lemmas.List.Elements.{All-cons, All-drop, All-nil}
use Rattle.hidreport_items.specs.Answer.{GrammarFault}
use Rattle.hidreport_items.specs.Spelling.{AreBytes, data_length, item_of, prefix, type_of}
use Rattle.hidreport_items.specs.declared.item.ItemType.{ItemType}
use Rattle.hidreport_lists.specs.Entry.{Spelled}
use Rattle.hidreport_lists.specs.Itemising.{Reads}
use Rattle.hidreport_lists.specs.Mending.{PieceRecord, item_in}
use Rattle.hidreport_lists.specs.declared.mending.Reason.{Reason}
use Rattle.hidreport_lists.specs.declared.mending.Reason.TheVariants as reason
use Rattle.hidreport.specs.Repair.{constant_bytes, rewritten, rewritten_as, set_constant, wider_bytes}
use Rattle.hidreport.proofs.KindLemmas.{kind, kind-again, kind-outline, kind-short, wider-one}
use Rattle.hidreport.proofs.KindLemmas.{wider-two}
use Rattle.hidreport.proofs.OutlineLemmas.{outline}
use Rattle.hidreport.proofs.SpelledPieceLemmas.{Stands}

abbrev pub outline_in : PieceRecord → Option ItemType
outline_in p = option_map outline (item_in p)

-- a piece that has been mended has the same outline, and its bytes still spell its item
pub record Mends (p q : PieceRecord) : Type 0 where
  pub outlines : outline_in q ≡ outline_in p
  pub stands : Stands q

pub mends-itself : (p : PieceRecord) → Stands p → Mends p p
mends-itself p stands = record { outlines = refl; stands = stands }

-- written with these bytes in place of those, of which the header says the same kind
record IsAgain (h : ℕ) (bs : List ℕ) (other : ℕ) (cs : List ℕ) : Type 0 where
  types : type_of other ≡ type_of h
  prefixes : prefix other ≡ prefix h
  bytes : AreBytes (other ∷ cs)
  size : length cs ≡ data_length other

again-by : (why : Reason) (p : PieceRecord) (h other : ℕ) (bs cs : List ℕ) (x z : ItemType)
    (r : Result ItemType GrammarFault)
    → p.stands ≡ Some (record { bytes = h ∷ bs; item = x }) → Stands p → item_of h bs ≡ Ok x
    → kind x ≡ Some z → IsAgain h bs other cs → item_of other cs ≡ r
    → Mends p (rewritten_as why p (other ∷ cs) r)
again-by why p h other bs cs x z (Err fault) is stands read known again got = mends-itself p stands
again-by why p h other bs cs x z (Ok y) is stands read known again got =
    let same : kind y ≡ Some z =
    kind-again h other bs cs x y read got again.types again.prefixes ∙ known in
    record {
      outlines = ap Some (kind-outline y z same ∙ sym (kind-outline x z known))
          ∙ sym (ap (λ (o : Option Spelled). option_map outline
          (option_map (λ (s : Spelled). s.item) o)) is);
      stands = (
        again.bytes,
        again.size ∙ sym (kind-short other cs y z got same),
        got,
      );
    }

mends-again : (why : Reason) (p : PieceRecord) (h other : ℕ) (bs cs : List ℕ) (x z : ItemType)
    → p.stands ≡ Some (record { bytes = h ∷ bs; item = x }) → Stands p → item_of h bs ≡ Ok x
    → kind x ≡ Some z → IsAgain h bs other cs → Mends p (rewritten why p (other ∷ cs))
mends-again why p h other bs cs x z is stands read known again =
    again-by why p h other bs cs x z (item_of other cs) is stands read known again refl

-- with the flag Constant

constant-byte : (b : ℕ) → b < 256 → set_constant b < 256
constant-byte b small = omega (arith, small)

-- the first byte of the data set so, others as they are
constant-again : (h b : ℕ) (bs : List ℕ) → AreBytes (h ∷ b ∷ bs)
    → length (b ∷ bs) ≡ data_length h → IsAgain h (b ∷ bs) h (set_constant b ∷ bs)
constant-again h b bs are size = record {
  types = refl;
  prefixes = refl;
  bytes = All-cons (λ c. c < 256) h (set_constant b ∷ bs) (are 0 0 (omega arith))
      (All-cons (λ c. c < 256) (set_constant b) bs (constant-byte b (are 1 0 (omega arith)))
      (All-drop (λ c. c < 256) 2 (h ∷ b ∷ bs) are));
  size = size;
}

pub mends-constant : (p : PieceRecord) (bytes : List ℕ) (x z : ItemType)
    → p.stands ≡ Some (record { bytes = bytes; item = x }) → Reads item_of bytes x
    → kind x ≡ Some z → Stands p → Mends p (rewritten reason.NoUsage p (constant_bytes bytes))
mends-constant p [] x z is read known stands = absurd read
mends-constant p (h ∷ []) x z is read known stands = mends-itself p stands
mends-constant p (h ∷ b ∷ []) x z is read known stands =
    mends-again reason.NoUsage p h h (b ∷ []) (set_constant b ∷ []) x z is stands read.2 known
    (constant-again h b [] read.0 (read.1 ∙ kind-short h (b ∷ []) x z read.2 known))
mends-constant p (h ∷ b ∷ c ∷ []) x z is read known stands =
    mends-again reason.NoUsage p h h (b ∷ c ∷ []) (set_constant b ∷ c ∷ []) x z is stands read.2
    known (constant-again h b (c ∷ []) read.0
    (read.1 ∙ kind-short h (b ∷ c ∷ []) x z read.2 known))
mends-constant p (h ∷ b ∷ c ∷ d ∷ []) x z is read known stands = mends-itself p stands
mends-constant p (h ∷ b ∷ c ∷ d ∷ e ∷ []) x z is read known stands =
    mends-again reason.NoUsage p h h (b ∷ c ∷ d ∷ e ∷ []) (set_constant b ∷ c ∷ d ∷ e ∷ []) x z is
    stands read.2 known (constant-again h b (c ∷ d ∷ e ∷ []) read.0
    (read.1 ∙ kind-short h (b ∷ c ∷ d ∷ e ∷ []) x z read.2 known))
mends-constant p (h ∷ b ∷ c ∷ d ∷ e ∷ f ∷ bs) x z is read known stands = mends-itself p stands

-- in more bytes

byte-nil : AreBytes []
byte-nil = All-nil (λ c. c < 256)

zeros : (bs : List ℕ) → AreBytes bs → AreBytes (0 ∷ bs)
zeros bs are = All-cons (λ c. c < 256) 0 bs (omega arith) are

pub mends-wider : (p : PieceRecord) (bytes : List ℕ) (x z : ItemType)
    → p.stands ≡ Some (record { bytes = bytes; item = x }) → Reads item_of bytes x
    → kind x ≡ Some z → Stands p → Mends p (rewritten reason.UnsignedMaximum p (wider_bytes bytes))
mends-wider p [] x z is read known stands = absurd read
mends-wider p (h ∷ []) x z is read known stands = mends-itself p stands
mends-wider p (h ∷ a ∷ []) x z is read known stands =
    let small : h < 256 = read.0 0 0 (omega arith) in
    let wide = wider-one h in
    mends-again reason.UnsignedMaximum p h (prefix h + 2) (a ∷ []) (a ∷ 0 ∷ []) x z is stands read.2
    known (record {
      types = wide.0;
      prefixes = wide.1;
      bytes = All-cons (λ c. c < 256) (prefix h + 2) (a ∷ 0 ∷ []) (omega (arith, small))
          (All-cons (λ c. c < 256) a (0 ∷ []) (read.0 1 0 (omega arith)) (zeros [] byte-nil));
      size = sym wide.2;
    })
mends-wider p (h ∷ a ∷ b ∷ []) x z is read known stands =
    let small : h < 256 = read.0 0 0 (omega arith) in
    let wide = wider-two h in
    mends-again reason.UnsignedMaximum p h (prefix h + 3) (a ∷ b ∷ []) (a ∷ b ∷ 0 ∷ 0 ∷ []) x z is
    stands read.2 known (record {
      types = wide.0;
      prefixes = wide.1;
      bytes = All-cons (λ c. c < 256) (prefix h + 3) (a ∷ b ∷ 0 ∷ 0 ∷ []) (omega (arith, small))
          (All-cons (λ c. c < 256) a (b ∷ 0 ∷ 0 ∷ []) (read.0 1 0 (omega arith))
          (All-cons (λ c. c < 256) b (0 ∷ 0 ∷ []) (read.0 2 0 (omega arith))
          (zeros (0 ∷ []) (zeros [] byte-nil))));
      size = sym wide.2;
    })
mends-wider p (h ∷ a ∷ b ∷ c ∷ bs) x z is read known stands = mends-itself p stands
