-- Examples of the definitions, checked with the program that is held to outside answers.
mod Examples
