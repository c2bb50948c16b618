-- What a read writes is a table (rule 7), and its containers stand within the depth: by recursion on the depth left.
-- Assumes nothing.
use Prim.Native.Nat.{ℕ, zero, suc, ◌+◌, ◌-◌, ◌*◌, ◌^◌, ◌≤◌, ◌<◌}
use mathlib.Core.Path.{◌≡◌, refl, sym, ap, ◌∙◌}
use mathlib.Core.Logic.{◌⊎◌, inl, inr}
use mathlib.Core.List.{List}
use mathlib.Core.Bool.{Bool, true, false, not, ◌&&◌, ◌||◌}
use native.Mathlib.Omega.{arith}
use lib.ListN.{length}
use lib.Dec.{ltb, leb, eqb}
use borrow.Author.Tests.{leb-true, eqb-true, eqb-false, eq-eqb, lt-ltb}
use Rattle.form.specs.Form.{Form}
use Rattle.form.specs.Answer.{Out, got, no, guard, ◌>>◌, ◌>>=◌, pick, depth_limit, document_limit}
use Rattle.form.specs.Spans.{part}
use Rattle.form.specs.Decoding.{verdict_in}
use Rattle.form.specs.Table.{Head, Forest, none, node, size, width, ◌⊕◌, width_of, holds}
use Rattle.form.specs.Tables.{leaf_fits, first_kind, LeafIs, ContainerIs, NameIs, Fair}
use Rattle.form.specs.Query.{shallow}
use Rattle.form.specs.Reading.{One, Run, Inside, Span, ListHead, Entry, end, named, before, has_name, byte_at, bytes_at, number_at, string_at, count_at, array_at, leaf_at}
use Rattle.form.specs.Reading.{leaf_one, list_head_at, entry_at, elements, entries, list_at, compound_at, container_at, payload_by, inside_at, document_at}
use Rattle.form.proofs.Picks.{differ}
use Rattle.form.proofs.Tables.{fair-node, fair-none, name-within}
use Rattle.form.proofs.Depths.{shallow-none, shallow-on, shallow-parts, then-got}
use Rattle.form.proofs.Answers.{Answers, bind-answers, guard-answers, readable-answers, weaker, got-answers, no-answers}
use Rattle.demands.proofs.Tags.{read_at}
use Rattle.form.proofs.EachKind.{by_kind}

-- Any refusal is allowed.
abbrev pub Whatever : ℕ → ℕ → Type 0
Whatever n p = Unit {0}

anything : {A : Type 0} (o : Out A) → Answers Whatever (λ _. Unit {0}) o
anything (got a) = got-answers tt
anything (no n p) = no-answers p tt

module _ (form : Form) (doc : List ℕ) where
  -- ---- fields

  -- A span that lies in the document, of so many bytes and elements.
  pub record SpanIs (n c : ℕ) (s : Span) : Type 0 where
    pub long : s.size ≡ n
    pub counts : s.count ≡ c
    pub to : s.start + s.size ≤ length doc

  bytes-span : (n c at : ℕ) → Answers Whatever (SpanIs n c) (bytes_at doc n c at)
  unfolding bytes_at
  bytes-span n c at = guard-answers (leb (at + n) (length doc)) _ _ _ (λ e. tt) (λ e. got-answers (record { long = refl; counts = refl; to = leb-true (at + n) (length doc) e }))

  -- A string's content.
  abbrev StringIs : Span → Type 0
  StringIs s = (s.count ≡ 0) × (s.start + s.size ≤ length doc)

  string-span : (at : ℕ) → Answers Whatever StringIs (string_at form doc at)
  unfolding string_at
  string-span at =
      bind-answers (number_at form doc 2 at) _ (anything (number_at form doc 2 at))
      (λ n u. bind-answers (bytes_at doc n 0 (at + 2)) _ (bytes-span n 0 (at + 2))
      (λ s w. readable-answers (verdict_in form.strings (part doc (at + 2) n)) (at + 2) _ (λ k e. tt) (λ e. got-answers (w.counts, w.to))))

  -- An array's elements.
  abbrev ArrayIs : ℕ → Span → Type 0
  ArrayIs w s = (s.size ≡ s.count * w) × (s.start + s.size ≤ length doc)

  array-span : (w at : ℕ) → Answers Whatever (ArrayIs w) (array_at form doc w at)
  unfolding array_at
  array-span w at =
      bind-answers (count_at form doc at) _ (anything (count_at form doc at))
      (λ n u. weaker-array n (bytes-span (n * w) n (at + 4)))
    where
      weaker-array : (n : ℕ) → Answers Whatever (SpanIs (n * w) n) (bytes_at doc (n * w) n (at + 4)) → Answers Whatever (ArrayIs w) (bytes_at doc (n * w) n (at + 4))
      weaker-array n h = weaker (bytes_at doc (n * w) n (at + 4)) h (λ s x. (x.long ∙ ap (λ (k : ℕ). k * w) (sym x.counts), x.to))

  -- ---- what holds no records

  abbrev LeafSpan : ℕ → Span → Type 0
  LeafSpan kind s = (leaf_fits kind s.size s.count ≡ true) × (s.start + s.size ≤ length doc)

  module _ (at : ℕ) where
    fixed : (k : ℕ) → leaf_fits k (width_of k) 0 ≡ true → Answers Whatever (LeafSpan k) (bytes_at doc (width_of k) 0 at)
    fixed k e = weaker (bytes_at doc (width_of k) 0 at) (bytes-span (width_of k) 0 at) (λ s x. (rw (x.long, x.counts) e, x.to))

    text : Answers Whatever (LeafSpan 8) (string_at form doc at)
    unfolding leaf_fits
    text = weaker (string_at form doc at) (string-span at) (λ s x. (eq-eqb s.count 0 x.0, x.1))

    array : (k : ℕ) → ((n : ℕ) → leaf_fits k (n * width_of k) n ≡ true) → Answers Whatever (LeafSpan k) (array_at form doc (width_of k) at)
    array k e = weaker (array_at form doc (width_of k) at) (array-span (width_of k) at) (λ s x. (rw x.0 (e s.count), x.1))

    leaf-span : (kind : ℕ) → 0 < kind → kind ≤ 12 → holds kind ≡ false → Answers Whatever (LeafSpan kind) (leaf_at form doc kind at)
    unfolding leaf_at leaf_fits width_of
    leaf-span kind p q =
        by_kind (λ k. holds k ≡ false → Answers Whatever (LeafSpan k) (leaf_at form doc k at))
        (λ e. fixed 1 refl) (λ e. fixed 2 refl) (λ e. fixed 3 refl) (λ e. fixed 4 refl) (λ e. fixed 5 refl) (λ e. fixed 6 refl)
        (λ e. array 7 (λ n. eq-eqb (n * 1) (n * 1) refl)) (λ e. text) (λ e. differ e) (λ e. differ e)
        (λ e. array 11 (λ n. eq-eqb (n * 4) (n * 4) refl)) (λ e. array 12 (λ n. eq-eqb (n * 8) (n * 8) refl))
        kind p q

  -- ---- heads

  -- An entry's kind is known, and its name lies in the document.
  abbrev EntryIs : Entry → Type 0
  EntryIs end = Unit {0}
  EntryIs (named k s) = (0 < k) × (k ≤ 12) × (s.start + s.size ≤ length doc)

  entry-is : (at : ℕ) → Answers Whatever EntryIs (entry_at form doc at)
  unfolding entry_at
  entry-is at = bind-answers (byte_at doc at) _ (anything (byte_at doc at)) (λ k u. go k (eqb k 0) refl)
    where
      go : (k : ℕ) (t : Bool) → eqb k 0 ≡ t → Answers Whatever EntryIs (elim t [ true ↦ got end | false ↦ string_at form doc (at + 1) >>= (λ s. guard (leb k 12) 3 at >> got (named k s)) ])
      go k true e = got-answers tt
      go k false e =
          bind-answers (string_at form doc (at + 1)) _ (string-span (at + 1))
          (λ s w. guard-answers (leb k 12) _ _ _ (λ f. tt) (λ f. got-answers (let z = eqb-false k 0 e in (omega (arith, z), leb-true k 12 f, w.1))))

  -- A list of no elements has the kind 0, and any other a kind that is known.
  abbrev HeadIs : ListHead → Type 0
  HeadIs h = (h.count ≡ 0 → h.kind ≡ 0) × (0 < h.count → (0 < h.kind) × (h.kind ≤ 12))

  head_is : (at : ℕ) → Answers Whatever HeadIs (list_head_at form doc at)
  unfolding list_head_at
  head_is at =
      bind-answers (byte_at doc at) _ (anything (byte_at doc at))
      (λ k u. bind-answers (number_at form doc 4 (at + 1)) _ (anything (number_at form doc 4 (at + 1)))
      (λ n v. guard-answers (leb k 12 && (not (eqb k 0) || eqb n 0)) _ _ _ (λ e. tt)
      (λ e. guard-answers (ltb n (2 ^ 31)) _ _ _ (λ f. tt) (λ f. got-answers (none_is n k (eqb n 0) refl, some_is n k (eqb n 0) refl (leb k 12) refl (eqb k 0) refl e)))))
    where
      none_is : (n k : ℕ) (t : Bool) → eqb n 0 ≡ t → n ≡ 0 → ◌≡◌ {A = ℕ} (elim t [ true ↦ 0 | false ↦ k ]) 0
      none_is n k true e z = refl
      none_is n k false e z = absurd (eqb-false n 0 e z)

      some_is : (n k : ℕ) (t : Bool) → eqb n 0 ≡ t → (a : Bool) → leb k 12 ≡ a → (b : Bool) → eqb k 0 ≡ b → (a && (not b || t)) ≡ true → 0 < n
          → (0 < elim t [ true ↦ 0 | false ↦ k ]) × (elim t [ true ↦ 0 | false ↦ k ] ≤ 12)
      some_is n k true e a f b g h p = absurd (omega (arith, eqb-true n 0 e))
      some_is n k false e true f false g h p = let z = eqb-false k 0 g in (omega (arith, z), leb-true k 12 f)
      some_is n k false e true f true g h p = differ (sym h)
      some_is n k false e false f b g h p = differ (sym h)

  -- ---- records

  -- A record that was read, where d containers may stand within each other.
  pub record TagIs (d kind name len : ℕ) (x : One) : Type 0 where
    pub kind_is : x.head.kind ≡ kind
    pub name-is : x.head.name ≡ name
    pub len_is : x.head.name_length ≡ len
    pub sort : LeafIs (length doc) x.head x.inner ⊎ ContainerIs x.head x.inner
    pub inner : Fair (length doc) (eqb x.head.kind 9) x.inner
    pub deep : (n : ℕ) → shallow d n (node x.head x.inner none) ≡ got tt

  -- It is no element, where its name is given.
  tag-name : {d kind name len : ℕ} (x : One) → TagIs d kind name len x → name + len ≤ length doc → NameIs (length doc) false x.head
  tag-name x t w = name-within (length doc) x.head (omega (arith, t.name-is, t.len_is, w))

  -- Records that were read one after the other; l says whether they are the elements of a list, which are of the kind k.
  pub record RunIs (d : ℕ) (l : Bool) (k c : ℕ) (r : Run) : Type 0 where
    pub fair : Fair (length doc) l r.forest
    pub deep : (n : ℕ) → shallow d n r.forest ≡ got tt
    pub wide : l ≡ true → width r.forest ≡ c
    pub first : l ≡ true → 0 < c → first_kind r.forest ≡ k

  -- What is in a container.
  pub record HeldIs (d kind : ℕ) (y : Inside) : Type 0 where
    pub fair : Fair (length doc) (eqb kind 9) y.forest
    pub deep : (n : ℕ) → shallow (d - 1) n y.forest ≡ got tt
    pub some : 0 < d
    pub count : y.count ≡ width y.forest
    pub listed : y.kind ≡ pick (eqb kind 9) (first_kind y.forest) 0

  -- One record more.
  more-deep : (d n : ℕ) (h : Head) (inner later : Forest) → shallow d n (node h inner none) ≡ got tt → ((m : ℕ) → shallow d m later ≡ got tt) → shallow d n (node h inner later) ≡ got tt
  more-deep d n h inner later a b =
      let p = shallow-parts d n h inner none a in
      shallow-on d n h inner later p.0 ∙ then-got (shallow (d - 1) (n + 1) inner) (shallow d (n + 1 + size inner) later) p.1 ∙ b (n + 1 + size inner)

  module _ (room d : ℕ) where
    abbrev pub Reads : Type 0
    Reads = (kind name len at n : ℕ) → 0 < kind → kind ≤ 12 → Answers Whatever (TagIs d kind name len) (read_at form doc room d kind name len at n)

    module _ (P : Reads) where
      more-run : (l : Bool) (k c kind name len : ℕ) (x : One) (r : Run) → NameIs (length doc) l x.head → (l ≡ true → kind ≡ k)
          → TagIs d kind name len x → RunIs d l k c r → RunIs d l k (suc c) (before x r)
      unfolding width first_kind
      more-run l k c kind name len x r m e t w = record {
        fair = fair-node (length doc) l x.head x.inner r.forest m t.sort t.inner w.fair;
        deep = λ n. more-deep d n x.head x.inner r.forest (t.deep n) w.deep;
        wide = λ f. omega (arith, w.wide f);
        first = λ f p. t.kind_is ∙ e f;
      }

      none-run : (l : Bool) (k at : ℕ) → RunIs d l k 0 (record { forest = none; next = at })
      unfolding width
      none-run l k at = record { fair = fair-none (length doc) l; deep = λ n. shallow-none d n; wide = λ e. refl; first = λ e p. absurd (omega arith) }

      elements-are : (c k at n : ℕ) → (0 < c → (0 < k) × (k ≤ 12)) → Answers Whatever (RunIs d true k c) (elements form doc (read_at form doc room d) c k at n)
      unfolding elements
      elements-are zero k at n h = got-answers (none-run true k at)
      elements-are (suc c) k at n h =
          let q = h (omega arith) in
          bind-answers (read_at form doc room d k 0 0 at n) _ (P k 0 0 at n q.0 q.1)
          (λ x t. bind-answers (elements form doc (read_at form doc room d) c k x.next (n + 1 + size x.inner)) _
          (elements-are c k x.next (n + 1 + size x.inner) (λ y. q))
          (λ r w. got-answers (more-run true k c k 0 0 x r (record { within = omega (arith, t.name-is, t.len_is); nameless = λ e. (t.name-is, t.len_is) }) (λ e. refl) t w)))

      entries-are : (fuel at n : ℕ) (earlier : Forest) → Answers Whatever (RunIs d false 0 0) (entries form doc (read_at form doc room d) fuel earlier at n)
      unfolding entries
      entries-are zero at n earlier = no-answers at tt
      entries-are (suc fuel) at n earlier = bind-answers (entry_at form doc at) _ (entry-is at) (go (entries-are fuel))
        where
          rest : Entry → Out Run
          rest e = elim e [
            | end ↦ got (record { forest = none; next = at + 1 })
            | named kind s ↦ guard (not (has_name doc (part doc s.start s.size) earlier)) 6 at >> (read_at form doc room d kind s.start s.size s.next n
                >>= (λ x. entries form doc (read_at form doc room d) fuel (earlier ⊕ node x.head x.inner none) x.next (n + 1 + size x.inner) >>= (λ r. got (before x r))))
          ]

          plain : {c : ℕ} {r : Run} → RunIs d false 0 c r → RunIs d false 0 0 r
          plain w = record { fair = w.fair; deep = w.deep; wide = λ e. differ (sym e); first = λ e p. differ (sym e) }

          go : ((at n : ℕ) (earlier : Forest) → Answers Whatever (RunIs d false 0 0) (entries form doc (read_at form doc room d) fuel earlier at n))
              → (e : Entry) → EntryIs e → Answers Whatever (RunIs d false 0 0) (rest e)
          go ih end i = got-answers (none-run false 0 (at + 1))
          go ih (named kind s) i =
              guard-answers (not (has_name doc (part doc s.start s.size) earlier)) _ _ _ (λ e. tt)
              (λ e. bind-answers (read_at form doc room d kind s.start s.size s.next n) _ (P kind s.start s.size s.next n i.0 i.1)
              (λ x t. bind-answers (entries form doc (read_at form doc room d) fuel (earlier ⊕ node x.head x.inner none) x.next (n + 1 + size x.inner)) _
              (ih x.next (n + 1 + size x.inner) (earlier ⊕ node x.head x.inner none))
              (λ r w. got-answers (plain (more-run false 0 0 kind s.start s.size x r (tag-name x t i.2) (λ f. differ (sym f)) t w)))))

      list_is : (at n : ℕ) → Answers Whatever (HeldIs (suc d) 9) (inside_at form doc room (suc d) 9 at n)
      unfolding inside_at container_at list_at width first_kind
      list_is at n =
          bind-answers (list_head_at form doc at) _ (head_is at)
          (λ h i. bind-answers (elements form doc (read_at form doc room d) h.count h.kind (at + 5) n) _ (elements-are h.count h.kind (at + 5) n i.1)
          (λ r w. got-answers (held h i r w)))
        where
          low : suc d - 1 ≡ d
          low = omega arith

          listed : (c k : ℕ) (f : Forest) → (c ≡ 0 → k ≡ 0) → width f ≡ c → (0 < c → first_kind f ≡ k) → k ≡ first_kind f
          listed c k none a b e = a (sym b)
          listed c k (node h inner later) a b e = sym (e (omega arith))

          held : (h : ListHead) → HeadIs h → (r : Run) → RunIs d true h.kind h.count r → HeldIs (suc d) 9 (record { forest = r.forest; count = h.count; kind = h.kind; next = r.next })
          held h i r w = record {
            fair = w.fair;
            deep = λ m. rw low (w.deep m);
            some = omega arith;
            count = sym (w.wide refl);
            listed = listed h.count h.kind r.forest i.0 (w.wide refl) (w.first refl);
          }

      compound-is : (at n : ℕ) → Answers Whatever (HeldIs (suc d) 10) (inside_at form doc room (suc d) 10 at n)
      unfolding inside_at container_at compound_at
      compound-is at n =
          bind-answers (entries form doc (read_at form doc room d) (suc (length doc)) none at n) _ (entries-are (suc (length doc)) at n none)
          (λ r w. got-answers (record { fair = w.fair; deep = λ m. rw low (w.deep m); some = omega arith; count = refl; listed = refl }))
        where
          low : suc d - 1 ≡ d
          low = omega arith

  -- ---- one record, and the root

  module _ (room : ℕ) where
    leaf-tag : (d kind name len at n : ℕ) → 0 < kind → kind ≤ 12 → holds kind ≡ false → Answers Whatever (TagIs d kind name len) (read_at form doc room d kind name len at n)
    unfolding payload_by leaf_one
    leaf-tag d kind name len at n p q h =
        guard-answers (ltb n room) _ _ _ (λ e. tt)
        (λ e. rw h (bind-answers (leaf_at form doc kind at) _ (leaf-span at kind p q h)
        (λ s w. got-answers (record {
          kind_is = refl;
          name-is = refl;
          len_is = refl;
          sort = inl (record { fits = w.0; body = w.1; plain = refl; bare = refl });
          inner = fair-none (length doc) (eqb kind 9);
          deep = λ m. shallow-on d m _ none none (test (holds kind) h) ∙ rw (shallow-none (d - 1) (m + 1), shallow-none d (m + 1 + size none));
        }))))
      where
        test : (b : Bool) → b ≡ false → (not b || ltb 0 d) ≡ true
        test b e = rw e

    held-tag : (d kind name len at n : ℕ) → holds kind ≡ true → Answers Whatever (HeldIs d kind) (inside_at form doc room d kind at (n + 1))
        → Answers Whatever (TagIs d kind name len) (read_at form doc room d kind name len at n)
    unfolding payload_by
    held-tag d kind name len at n h i =
        guard-answers (ltb n room) _ _ _ (λ e. tt)
        (λ e. rw h (bind-answers (inside_at form doc room d kind at (n + 1)) _ i
        (λ y w. got-answers (record {
          kind_is = refl;
          name-is = refl;
          len_is = refl;
          sort = inr (record { kind = h; start = refl; long = refl; count = w.count; listed = w.listed });
          inner = w.fair;
          deep = λ m. shallow-on d m _ y.forest none (test (holds kind) d w.some) ∙ rw (w.deep (m + 1), shallow-none d (m + 1 + size y.forest));
        }))))
      where
        test : (b : Bool) (d : ℕ) → 0 < d → (not b || ltb 0 d) ≡ true
        test true d l = lt-ltb 0 d l
        test false d l = refl

    any-tag : (d : ℕ) → ((at n : ℕ) → Answers Whatever (HeldIs d 9) (inside_at form doc room d 9 at n)) → ((at n : ℕ) → Answers Whatever (HeldIs d 10) (inside_at form doc room d 10 at n)) → Reads room d
    any-tag d lists compounds kind name len at n p q =
        by_kind (λ k. Answers Whatever (TagIs d k name len) (read_at form doc room d k name len at n))
        (leaf 1 (omega arith) refl) (leaf 2 (omega arith) refl) (leaf 3 (omega arith) refl) (leaf 4 (omega arith) refl)
        (leaf 5 (omega arith) refl) (leaf 6 (omega arith) refl) (leaf 7 (omega arith) refl) (leaf 8 (omega arith) refl)
        (held-tag d 9 name len at n refl (lists at (n + 1))) (held-tag d 10 name len at n refl (compounds at (n + 1)))
        (leaf 11 (omega arith) refl) (leaf 12 (omega arith) refl)
        kind p q
      where
        leaf : (k : ℕ) → (0 < k) × (k ≤ 12) → holds k ≡ false → Answers Whatever (TagIs d k name len) (read_at form doc room d k name len at n)
        leaf k r h = leaf-tag d k name len at n r.0 r.1 h

    pub tag_is : (d : ℕ) → Reads room d
    unfolding inside_at
    tag_is zero = any-tag zero (λ at n. no-answers at tt) (λ at n. no-answers at tt)
    tag_is (suc d) = any-tag (suc d) (list_is room d (tag_is d)) (compound-is room d (tag_is d))

    -- What a read accepts: a compound whose records are fair and within the depth.
    pub record RootIs (x : One) : Type 0 where
      pub compound : x.head.kind ≡ 10
      pub fair : Fair (length doc) false (node x.head x.inner none)
      pub deep : shallow depth_limit 0 (node x.head x.inner none) ≡ got tt

    pub root_is : Answers Whatever RootIs (document_at form doc room)
    unfolding document_at
    root_is =
        guard-answers (leb (length doc) document_limit) _ _ _ (λ e. tt)
        (λ e. bind-answers (byte_at doc 0) _ (anything (byte_at doc 0))
        (λ k u. guard-answers (eqb k 10) _ _ _ (λ f. tt)
        (λ f. bind-answers (string_at form doc 1) _ (string-span 1)
        (λ s w. weaker (read_at form doc room depth_limit 10 s.start s.size s.next 0) (tag_is depth_limit 10 s.start s.size s.next 0 (omega arith) (omega arith))
        (λ x t. record {
          compound = t.kind_is;
          fair = fair-node (length doc) false x.head x.inner none (tag-name x t w.1) t.sort t.inner (fair-none (length doc) false);
          deep = t.deep 0;
        })))))
