-- What the walks ensure, and what clauses say of a book.
pub mod Posts
pub mod Books
